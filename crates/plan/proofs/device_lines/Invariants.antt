-- `plan::device_lines` meets its contract: the row at hand lies within the rows.
use Rattle.std.proofs.Common.{◌≡◌, ◌*◌}
use Rattle.plan.proofs.device_lines.Given as goal

abbrev pub invariant-loop-k : goal.invariant-loop-k
invariant-loop-k l = l.at ≡ l.k * l.h
