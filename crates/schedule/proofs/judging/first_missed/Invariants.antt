-- `schedule::judging::first_missed` meets its contract.
use Rattle.schedule.specs.Listing.{Met}
use Rattle.schedule.proofs.Judgements.{holding}
use Rattle.schedule.proofs.judging.first_missed.Given as goal

abbrev pub invariant-loop-j : goal.invariant-loop-j
invariant-loop-j l = Met (holding l.jobs) l.starts l.j
