-- `sheet_import::judging::jobs_fault` meets its contract.
use Rattle.std.proofs.Common.{◌≡◌, sym, ◌∙◌, arith, length}
use Rattle.std.proofs.lemmas.Result.{err_from_is_err_and}
use lib.ListN.{length-map}
use Rattle.text.specs.Grammar.{lines_of}
use Rattle.sheet.specs.declared.SheetKind.TheVariants.{Jobs}
use Rattle.sheet.specs.Sheets.{jobs_in}
use Rattle.sheet_import.specs.LineFaults.{table, JobsTable, many, few}
use Rattle.sheet_import.proofs.Only.{walked_ok, walked_told}
use Rattle.sheet_import.proofs.judging.jobs_fault.Goals as goal

pub returns-in_err-lines_fault : goal.returns-in_err-lines_fault
returns-in_err-lines_fault c =
    let s = c.args.text.now in
    let p = err_from_is_err_and c.from_residual.result c.from_residual.ensures.1 in
    rw (p.1, p.2) (walked_told Jobs s (JobsTable s) _ c.in_err-lines_fault.ensures)

pub returns-then-count_lines-gt16 : goal.returns-then-count_lines-gt16
returns-then-count_lines-gt16 c =
    let s = c.args.text.now in
    let counted : c.count_lines.result ≡ length (jobs_in s) = c.count_lines.ensures ∙ sym (length-map (lines_of s) _) in
    table (walked_ok Jobs s c.in_ok-lines_fault.ensures) (many (omega (arith, counted, c.if-count_lines-gt16.true)))

pub returns : goal.returns
returns c =
    let s = c.args.text.now in
    let counted : c.count_lines.result ≡ length (jobs_in s) = c.count_lines.ensures ∙ sym (length-map (lines_of s) _) in
    table (walked_ok Jobs s c.in_ok-lines_fault.ensures) (few (omega (arith, counted, c.if-count_lines-gt16.false)))
