-- `sheet_import::import_jobs` meets its contract.
use Rattle.std.proofs.Common.{refl, ◌∙◌, arith}
use Rattle.std.proofs.lemmas.Result.{err_from_is_err_and}
use Rattle.base.proofs.Numbered.{not_0}
use Rattle.text.proofs.Puts.{put_front}
use Rattle.sheet.specs.declared.SheetKind.TheVariants.{Jobs}
use Rattle.sheet.proofs.Answers.{filled_as, refused_as}
use Rattle.sheet_import.proofs.Tables.{sound_lines}
use Rattle.sheet_import.proofs.Outcomes.{jobs_bytes, jobs_count}
use Rattle.sheet_import.proofs.Only.{jobs_number, jobs_clear}
use Rattle.sheet_import.proofs.import_jobs.Goals as goal

pub returns-in_err-jobs_fault : goal.returns-in_err-jobs_fault
returns-in_err-jobs_fault c =
    let p = err_from_is_err_and c.from_residual.result c.from_residual.ensures.1 in
    rw (p.1, p.2) (refused_as (jobs_number c.args.text.now c.in_err-jobs_fault.ensures) (not_0 _))

pub overflow_mul-size : goal.overflow_mul-size
overflow_mul-size c = omega (arith, (jobs_clear c.args.text.now c.in_ok-jobs_fault.ensures refl).1, c.count_lines-lines.ensures)

pub put_rows-requires : goal.put_rows-requires
put_rows-requires c =
    let s = c.args.text.now in
    let clear = jobs_clear s c.in_ok-jobs_fault.ensures refl in
    (c.count_lines-lines.ensures, omega (arith, clear.1, c.count_lines-lines.ensures), sound_lines Jobs s clear.0)

pub slice_bounds-own-end : goal.slice_bounds-own-end
slice_bounds-own-end c = omega (arith, (jobs_clear c.args.text.now c.in_ok-jobs_fault.ensures refl).1, c.count_lines-lines.ensures, c.put_rows.auto)

pub give-requires : goal.give-requires
give-requires c = omega (arith, (jobs_clear c.args.text.now c.in_ok-jobs_fault.ensures refl).1, c.count_lines-lines.ensures)

pub returns : goal.returns
returns c =
    let s = c.args.text.now in
    let fine = jobs_number s c.in_ok-jobs_fault.ensures in
    filled_as fine (c.count_lines-lines.ensures ∙ jobs_count s) (put_front c.put_rows.ensures ∙ jobs_bytes s fine) c.give.ensures
