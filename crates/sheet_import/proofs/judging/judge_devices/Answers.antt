-- `sheet_import::judging::judge_devices` meets its contract.
use Rattle.std.proofs.lemmas.Result.{err_from_is_err_and}
use Rattle.sheet.specs.declared.SheetKind.TheVariants.{Devices}
use Rattle.sheet_import.proofs.Tables.{sound_lines}
use Rattle.sheet_import.proofs.Only.{walked_ok, judged_line, judged_unfit}
use Rattle.sheet_import.proofs.judging.judge_devices.Goals as goal

pub returns-in_err-lines_fault : goal.returns-in_err-lines_fault
returns-in_err-lines_fault c =
    let p = err_from_is_err_and c.from_residual.result c.from_residual.ensures.1 in
    rw (p.1, p.2) (judged_line c.args.text.now _ c.in_err-lines_fault.ensures)

pub unfit_line-requires : goal.unfit_line-requires
unfit_line-requires c =
    let s = c.args.text.now in
    (c.count_lines.ensures, sound_lines Devices s (walked_ok Devices s c.in_ok-lines_fault.ensures))

pub returns : goal.returns
returns c =
    let s = c.args.text.now in
    rw c.fault_at.ensures (judged_unfit s (walked_ok Devices s c.in_ok-lines_fault.ensures) _ c.count_lines.ensures _ c.unfit_line.ensures)
