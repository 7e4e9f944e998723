-- `tables::kinds::device_place` meets its contract.
use mathlib.Core.Path.{◌≡◌}
use Rattle.tables.specs.Layout.{device_place}
use Rattle.tables.proofs.kinds.device_place.Given as goal

abbrev pub invariant-loop-k : goal.invariant-loop-k
invariant-loop-k l = l.at ≡ device_place l.kind l.s l._k
