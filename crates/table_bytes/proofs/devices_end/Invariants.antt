-- `table_bytes::devices_end` meets its contract.
use mathlib.Core.Path.{◌≡◌}
use Rattle.base.specs.Refusals.{after}
use Rattle.tables.specs.Records.{device_size}
use Rattle.table_bytes.proofs.devices_end.Given as goal

abbrev pub invariant-loop-k : goal.invariant-loop-k
invariant-loop-k l = l.at ≡ after (device_size l.kind l.s) l._k 9
