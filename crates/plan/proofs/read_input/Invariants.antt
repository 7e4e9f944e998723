-- `plan::read_input` meets its contract: no more has come than there is room for.
use Rattle.std.proofs.Common.{◌≤◌, ◌-◌, length}
use Rattle.plan.proofs.read_input.Given as goal

abbrev pub invariant-loop-read : goal.invariant-loop-read
invariant-loop-read l = l.read ≤ length l.buffer

abbrev pub decreases-loop-read : goal.decreases-loop-read
decreases-loop-read l = length l.buffer - l.read
