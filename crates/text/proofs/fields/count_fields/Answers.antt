use mathlib.Core.Path.{sym, ◌∙◌}
use native.Mathlib.Omega.{arith}
use Rattle.text.proofs.Cutting.{told_some, told_none, count_stray, last_counted, next_counted}
use Rattle.text.proofs.fields.count_fields.Goals as goal

pub returns-in_err-end : goal.returns-in_err-end
returns-in_err-end c =
    let l = c.loop-end in
    let s = c.args.line.now in
    c.from_residual.ensures ∙ sym (l.invariant.2 ∙ count_stray _ l.count (told_none s l.at c.in_err-end.ensures))

pub overflow_add-end : goal.overflow_add-end
overflow_add-end c =
    let l = c.loop-end in
    let s = c.args.line.now in
    let n = c.in_ok-end.field-0 in
    let w = told_some s l.at n l.invariant.0 c.in_ok-end.ensures in
    omega arith

pub returns-then-end-line : goal.returns-then-end-line
returns-then-end-line c =
    let l = c.loop-end in
    let s = c.args.line.now in
    let n = c.in_ok-end.field-0 in
    let w = told_some s l.at n l.invariant.0 c.in_ok-end.ensures in
    sym (l.invariant.2 ∙ last_counted s l.at n w l.count c.if-end-line.true)

pub overflow_add-at : goal.overflow_add-at
overflow_add-at c =
    let l = c.loop-end in
    let s = c.args.line.now in
    let n = c.in_ok-end.field-0 in
    let w = told_some s l.at n l.invariant.0 c.in_ok-end.ensures in
    omega (arith, c.if-end-line.false)

pub loop-end-preserved : goal.loop-end-preserved
loop-end-preserved c =
    let l = c.loop-end in
    let s = c.args.line.now in
    let n = c.in_ok-end.field-0 in
    let w = told_some s l.at n l.invariant.0 c.in_ok-end.ensures in
    (omega (arith, c.if-end-line.false), omega arith, l.invariant.2 ∙ next_counted s l.at n w l.count c.if-end-line.false)
