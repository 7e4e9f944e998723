-- `extras::jobs::lay_jobs` meets its contract. The loop's invariant: the jobs passed have their lists.
use Rattle.flat.specs.inside.Flat.{recorder_of}
use Rattle.extras.specs.inside.Parts.{LaidJobs}
use Rattle.extras.proofs.jobs.lay_jobs.Given as goal

abbrev pub invariant-loop-j : goal.invariant-loop-j
invariant-loop-j l = LaidJobs (recorder_of l.r) l.j l.initial.extras l.extras
