-- `extras::jobs::lay_job` meets its contract. The loop's invariant: those of the devices passed that the job uses are listed, and n is how many.
use mathlib.Core.Path.{◌≡◌}
use Prim.Native.Nat.{◌≤◌}
use Rattle.flat.specs.inside.Flat.{recorder_of}
use Rattle.extras.specs.inside.Jobs.{used_below}
use Rattle.extras.proofs.Listed.{ListedTo}
use Rattle.extras.proofs.jobs.lay_job.Given as goal

abbrev pub invariant-loop-k : goal.invariant-loop-k
invariant-loop-k l =
    record {
      listed : ListedTo (recorder_of l.r) l.j l.k l.initial.extras l.extras;
      count : l.n ≡ used_below (recorder_of l.r) l.j l.k;
      few : l.n ≤ l.k;
    }
