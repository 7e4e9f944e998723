-- `schedule::judging::first_overlap` meets its contract.
use Prim.Native.Nat.{ℕ, ◌<◌}
use Rattle.schedule.specs.Listing.{Overlaps}
use Rattle.schedule.proofs.judging.first_overlap.Given as goal

abbrev pub invariant-loop-j : goal.invariant-loop-j
invariant-loop-j l = (i : ℕ) → i < l.j → Overlaps l.r l.starts i → ⊥
