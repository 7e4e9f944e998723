-- `planner::recorders::margins_of` meets its contract.
use Rattle.planner.specs.Promises.{stops, gives}
use Rattle.planner.proofs.Refusing.{unless_equal, unless_enough}
use Rattle.planner.proofs.recorders.margins_of.Goals as goal

pub returns-then-starts-jobs : goal.returns-then-starts-jobs
returns-then-starts-jobs c = rw c.from.ensures (stops c.if-starts-jobs.true)

pub returns-then-out-jobs : goal.returns-then-out-jobs
returns-then-out-jobs c = rw c.from-then-out-jobs.ensures (unless_equal c.if-starts-jobs.false (stops c.if-out-jobs.true))

pub write_margins-requires : goal.write_margins-requires
write_margins-requires c = (c.requires, c.if-starts-jobs.false, c.if-out-jobs.false)

pub returns : goal.returns
returns c = rw c.write_margins.ensures (unless_equal c.if-starts-jobs.false (unless_enough c.if-out-jobs.false gives))
