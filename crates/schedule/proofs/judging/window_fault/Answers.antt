-- `schedule::judging::window_fault` meets its contract.
use Rattle.std.proofs.Common.{arith}
use Rattle.schedule.specs.inside.Judging.{window_fault}
use Rattle.schedule.proofs.judging.window_fault.Goals as goal

pub returns-then-start-job : goal.returns-then-start-job
unfolding window_fault
returns-then-start-job c = grind arith

pub returns-then-from : goal.returns-then-from
unfolding window_fault
returns-then-from c = grind arith

pub returns : goal.returns
unfolding window_fault
returns c = grind arith
