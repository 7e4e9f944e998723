-- `least::first_start` meets its contract. The loop's invariant: no start that is passed has the goal.
use Prim.Native.Nat.{◌≤◌}
use Rattle.least.specs.inside.Outcome.{recorder, LentTo}
use Rattle.least.proofs.Hitting.{Passed}
use Rattle.least.proofs.reading.first_start.Given as goal

abbrev pub invariant-loop-s : goal.invariant-loop-s
invariant-loop-s l =
    record {
      lent : LentTo l.search l.memory;
      within : l.entered ≤ l.search.budget;
      passed : Passed (recorder l.search) l.v l.set l.j l.time l.goal l.initial.entered l.initial.s l.s l.entered;
    }
