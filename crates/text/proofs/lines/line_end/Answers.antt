use mathlib.Core.Path.{sym, ◌∙◌}
use native.Mathlib.Omega.{arith}
use Rattle.text.proofs.Scanning.{line_stops, line_goes, line_done}
use Rattle.text.proofs.lines.line_end.Goals as goal

pub loop-i-init : goal.loop-i-init
loop-i-init c = (omega arith, omega arith)

pub returns-then-is_break : goal.returns-then-is_break
returns-then-is_break c =
    let l = c.loop-i in
    let s = c.args.s.now in
    omega (arith, line_stops s l.i (omega arith) (sym c.is_break.ensures ∙ c.if-is_break.true), l.invariant.1)

pub loop-i-preserved : goal.loop-i-preserved
loop-i-preserved c =
    let l = c.loop-i in
    let s = c.args.s.now in
    (omega arith, omega (arith, line_goes s l.i (omega arith) (sym c.is_break.ensures ∙ c.if-is_break.false), l.invariant.1))

pub returns : goal.returns
returns c =
    let l = c.loop-i in
    let s = c.args.s.now in
    omega (arith, line_done s l.i (omega arith), l.invariant.1)
