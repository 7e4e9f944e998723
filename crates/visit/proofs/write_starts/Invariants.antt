-- `visit::write_starts` meets its contract.
use mathlib.Core.Path.{◌≡◌}
use lib.ListN.{length, set}
use Rattle.base.specs.Loops.{each}
use Rattle.visit.specs.inside.Lent.{best_at}
use Rattle.visit.proofs.write_starts.Given as goal

abbrev pub invariant-loop-j : goal.invariant-loop-j
invariant-loop-j l = (l.out ≡ each (λ i out. set out i (best_at l.tally i)) l.j l.initial.out) × (length l.out ≡ length l.initial.out)
