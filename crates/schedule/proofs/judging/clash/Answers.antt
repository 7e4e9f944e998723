-- `schedule::judging::clash` meets its contract.
use Rattle.std.proofs.Common.{arith}
use Rattle.schedule.specs.inside.Judging.{clashes}
use Rattle.schedule.proofs.judging.clash.Goals as goal
use Rattle.schedule.proofs.judging.clash.Goals.{then-i-j, else-i-j}

pub returns-then-from : goal.returns-then-from
unfolding clashes
returns-then-from c = elim c.if-i-j.branch [ then-i-j w ↦ grind arith | else-i-j w ↦ grind arith ]

pub returns-else-from : goal.returns-else-from
unfolding clashes
returns-else-from c = elim c.if-i-j.branch [ then-i-j w ↦ grind arith | else-i-j w ↦ grind arith ]
