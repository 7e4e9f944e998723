-- `catalogue::look_up::devices_of` meets its contract.
use mathlib.Core.Path.{◌≡◌}
use Rattle.base.specs.Lists.{up_to, padded}
use Rattle.tables.specs.Records.{blank_device}
use Rattle.catalogue.proofs.Pieces.{record_for}
use Rattle.catalogue.proofs.look_up.devices_of.Given as goal

-- The records of the wanted parts so far.
abbrev pub invariant-loop-k : goal.invariant-loop-k
invariant-loop-k l = l.devices ≡ record { count = l.count; list = padded 8 blank_device (up_to (record_for l.catalogue l.wanted) l.k) }
