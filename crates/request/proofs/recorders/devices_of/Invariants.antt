-- `request::recorders::devices_of` meets its contract.
use mathlib.Core.Path.{◌≡◌}
use Rattle.base.specs.Lists.{up_to, padded}
use Rattle.tables.specs.Records.{device_at}
use Rattle.tables.specs.Layout.{device_place}
use Rattle.request.specs.Format.{device_of, vacant_device}
use Rattle.request.proofs.recorders.devices_of.Given as goal

abbrev pub invariant-loop-k : goal.invariant-loop-k
invariant-loop-k l = (l.at ≡ device_place l.kind l.s l.k) × (l.devices ≡ record { count = 0; list = padded 8 vacant_device (up_to (λ x. device_of (device_at l.kind l.s (device_place l.kind l.s x))) l.k) })
