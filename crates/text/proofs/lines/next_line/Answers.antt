-- `text::lines::next_line` meets its contract.
use native.Mathlib.Omega.{arith}
use Rattle.text.proofs.Scanning.{next_behind, next_none}
use Rattle.text.proofs.lines.next_line.Goals as goal

pub returns-then-end-s : goal.returns-then-end-s
returns-then-end-s c = next_behind c.args.s.now c.line_end-end.result c.line_end-end.ensures (omega arith)

pub returns-else-end-s : goal.returns-else-end-s
returns-else-end-s c = next_none c.args.s.now c.line_end-end.result c.line_end-end.ensures (omega arith)
