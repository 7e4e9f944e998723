-- `faults::records::records_place` meets its contract.
use mathlib.Core.Path.{◌≡◌}
use Prim.Native.Nat.{◌-◌, ◌≤◌}
use lib.ListN.{length}
use Rattle.faults.specs.inside.Walk.{records_walk}
use Rattle.faults.proofs.records.records_place.Given as goal

abbrev pub invariant-loop-i : goal.invariant-loop-i
invariant-loop-i l = (l.at ≤ length l.s) × (records_walk l.mark l.s l.k l.count 0 l.initial.at ≡ records_walk l.mark l.s l.k (l.count - l.i) l.i l.at)
