use mathlib.Core.Path.{◌≡◌, sym, ap, ◌∙◌}
use Prim.Native.Nat.{◌-◌}
use native.Mathlib.Omega.{arith}
use lib.ListN.{drop}
use Rattle.text.specs.inside.Cursors.{raw_of, field_at, first_field}
use Rattle.text.proofs.Cutting.{rest_told, told_some, field_first, past_last, next_read, next_field}
use Rattle.base.proofs.Pieces.{part_rest}
use Rattle.text.proofs.fields.field.Goals as goal

pub unwrap-requires : goal.unwrap-requires
unwrap-requires c = rw (c.cut.ensures ∙ rest_told c.args.line.now c.loop.at c.loop.invariant.2)

pub overflow_add-end : goal.overflow_add-end
overflow_add-end c =
    let l = c.loop in
    let s = c.args.line.now in
    let n = c.unwrap.result in
    let w = told_some s l.at n l.invariant.0 (sym c.unwrap.ensures ∙ c.cut.ensures) in
    omega arith

pub returns-then-end-line : goal.returns-then-end-line
returns-then-end-line c =
    let l = c.loop in
    let s = c.args.line.now in
    let n = c.unwrap.result in
    let w = told_some s l.at n l.invariant.0 (sym c.unwrap.ensures ∙ c.cut.ensures) in
    sym (l.invariant.3 ∙ past_last s l.at n w l.invariant.2 c.args.i l.counter (omega arith) c.if-end-line.true)

pub overflow_add-at : goal.overflow_add-at
overflow_add-at c =
    let l = c.loop in
    let s = c.args.line.now in
    let n = c.unwrap.result in
    let w = told_some s l.at n l.invariant.0 (sym c.unwrap.ensures ∙ c.cut.ensures) in
    omega (arith, c.if-end-line.false)

pub loop-preserved : goal.loop-preserved
loop-preserved c =
    let l = c.loop in
    let s = c.args.line.now in
    let n = c.unwrap.result in
    let w = told_some s l.at n l.invariant.0 (sym c.unwrap.ensures ∙ c.cut.ensures) in (
      omega (arith, c.if-end-line.false),
      omega arith,
      next_read s l.at n w l.invariant.2 c.if-end-line.false,
      l.invariant.3 ∙ next_field s l.at n w l.invariant.2 c.args.i l.counter (omega arith) c.if-end-line.false,
    )

pub first_field-requires : goal.first_field-requires
first_field-requires c = rw (part_rest c.args.line.now c.loop.at) c.loop.invariant.2

pub returns : goal.returns
returns c =
    let l = c.loop in
    let s = c.args.line.now in
    let zero : c.args.i - l.counter ≡ 0 = omega arith in
    c.first_field.ensures ∙ ap first_field (part_rest s l.at) ∙ sym (l.invariant.3 ∙ ap (field_at (raw_of (drop l.at s))) zero ∙ field_first (drop l.at s) l.invariant.2)
