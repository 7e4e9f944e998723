-- `tables::records::devices_at` meets its contract.
use mathlib.Core.Path.{◌≡◌}
use Rattle.base.specs.Lists.{up_to, padded}
use Rattle.base.specs.Refusals.{after}
use Rattle.tables.specs.Records.{device_at, device_size, blank_device}
use Rattle.tables.proofs.records.devices_at.Given as goal

abbrev pub invariant-loop-k : goal.invariant-loop-k
invariant-loop-k l = (l.at ≡ after (device_size l.kind l.s) l.k l.from) × (l.list ≡ padded 8 blank_device (up_to (λ x. device_at l.kind l.s (after (device_size l.kind l.s) x l.from)) l.k))
