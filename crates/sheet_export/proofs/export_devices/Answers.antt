-- `sheet_export::export_devices` meets its contract.
use mathlib.Core.Path.{refl, sym, ◌∙◌}
use native.Mathlib.Omega.{arith}
use Rattle.text.proofs.Puts.{put_size, put_front}
use Rattle.sheet.specs.Promises as P
use Rattle.sheet.proofs.Answers.{filled_as}
use borrow.Author.Rules.{rules}
use Rattle.sheet_export.proofs.export_devices.Goals as goal

pub returns-then-is_unfit : goal.returns-then-is_unfit
returns-then-is_unfit c =
    let u = sym c.is_unfit.ensures ∙ c.if-is_unfit.true in
    rw (c.from.ensures, u) (P.Filled.refused (λ n. omega (arith, n)))

pub is_repeated-requires : goal.is_repeated-requires
is_repeated-requires c = sym c.is_unfit.ensures ∙ c.if-is_unfit.false

pub returns-then-is_repeated : goal.returns-then-is_repeated
returns-then-is_repeated c =
    let u = sym c.is_unfit.ensures ∙ c.if-is_unfit.false in
    let w = sym c.is_repeated.ensures ∙ c.if-is_repeated.true in
    rw (c.from-then-is_repeated.ensures, u, w) (P.Filled.refused (λ n. omega (arith, n)))

pub put_part_lines-size-requires : goal.put_part_lines-size-requires
put_part_lines-size-requires c = (sym c.is_unfit.ensures ∙ c.if-is_unfit.false, refl)

pub slice_bounds-own-end : goal.slice_bounds-own-end
slice_bounds-own-end c = search rules

pub returns : goal.returns
returns c =
    let put = c.put_part_lines-size.ensures.1 in
    let u = sym c.is_unfit.ensures ∙ c.if-is_unfit.false in
    let w = sym c.is_repeated.ensures ∙ c.if-is_repeated.false in
    filled_as (rw (u, w)) (put_size put) (put_front put) c.give.ensures
