-- `least::first_child` meets its contract. The loop's invariant: no job that is passed has a start with the goal.
use Prim.Native.Nat.{◌≤◌}
use Rattle.least.specs.inside.Outcome.{recorder, LentTo}
use Rattle.least.proofs.Seeking.{Sought}
use Rattle.least.proofs.reading.first_child.Given as goal

abbrev pub invariant-loop-j : goal.invariant-loop-j
invariant-loop-j l =
    record {
      lent : LentTo l.search l.memory;
      within : l.entered ≤ l.search.budget;
      sought : Sought (recorder l.search) l.v l.set l.time l.goal l.initial.entered l.j l.entered;
    }
