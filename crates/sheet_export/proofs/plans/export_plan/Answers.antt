-- `sheet_export::plans::export_plan` meets its contract.
use mathlib.Core.Path.{refl, subst}
use mathlib.Core.List.{List, map}
use lib.IntN.{ℤ, pos, nat_abs}
use lib.ListN.{replicate}
use Rattle.std.proofs.lemmas.Result.{err_from_is_err_and}
use Rattle.base.proofs.Numbered.{not_0}
use Rattle.planner.specs.Answers.{answered}
use Rattle.planner.specs.Promises.{Margined}
use Rattle.text.proofs.Puts.{put_size, put_front}
use Rattle.sheet.specs.Promises as P
use Rattle.sheet.proofs.Answers.{filled_as}
use Rattle.sheet_export.proofs.Spares.{planned, spares}
use borrow.Author.Rules.{rules}
use Rattle.sheet_export.proofs.plans.export_plan.Goals as goal

pub returns-in_err-judged : goal.returns-in_err-judged
returns-in_err-judged c =
    let p = err_from_is_err_and c.from_residual.result c.from_residual.ensures.1 in
    rw (p.1, p.2) (P.ExportedPlan.refused c.in_err-judged.ensures (not_0 _))

pub put_plan_lines-size-requires : goal.put_plan_lines-size-requires
put_plan_lines-size-requires c =
    let file = c.args.file.now in
    let starts = c.args.starts.now in
    let judged = c.in_ok-judged.ensures in
    let margined = c.margins.ensures in
    let sp = spares file starts (planned file starts judged refl) margined in
    (sp.few, sp.long, refl, sp.each)

pub slice_bounds-own-end : goal.slice_bounds-own-end
slice_bounds-own-end c = search rules

pub returns : goal.returns
returns c =
    let file = c.args.file.now in
    let starts = c.args.starts.now in
    let judged = c.in_ok-judged.ensures in
    let margined = c.margins.ensures in
    let sp = spares file starts (planned file starts judged refl) margined in
    let after = c.margins.new.out in
    let found = answered c.margins.result in
    let put = c.put_plan_lines-size.ensures.1 in
    P.ExportedPlan.planned (map nat_abs after) judged refl (subst (λ (x : List ℤ). Margined file starts (replicate 16 (pos 0)) found x) sp.naturals margined)
    (filled_as refl (put_size put) (put_front put) c.give.ensures)
