-- `schedule::judging::overlaps` meets its contract.
use Rattle.schedule.proofs.Judgements.{holding, Apart}
use Rattle.schedule.proofs.judging.overlaps.Given as goal

abbrev pub invariant-loop-i : goal.invariant-loop-i
invariant-loop-i l = Apart (holding l.jobs) l.starts l.job.0 l.i
