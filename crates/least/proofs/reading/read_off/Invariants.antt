-- `least::read_off` meets its contract. The loop's invariant: part of the schedule is read off.
use Prim.Native.Nat.{◌≤◌}
use Rattle.least.specs.inside.Outcome.{recorder, LentTo}
use Rattle.least.specs.inside.Readings.{Reads}
use Rattle.least.proofs.reading.read_off.Given as goal

abbrev pub invariant-loop-set : goal.invariant-loop-set
invariant-loop-set l =
    record {
      lent : LentTo l.search l.memory;
      within : l.entered ≤ l.search.budget;
      reads : Reads (recorder l.search) l.v l.starts l.set l.time l.goal l.entered;
    }

abbrev pub decreases-loop-set : goal.decreases-loop-set
decreases-loop-set l = l.set
