-- `sheet_import::lines::line_fault` meets its contract.
use Rattle.std.proofs.Common.{sym, ◌∙◌, arith}
use Rattle.std.proofs.lemmas.Result.{err_from_is_err_and}
use Rattle.sheet_import.proofs.Faults.{stray, fault_27, fault_28, fault_29, fault_none, counted_read}
use Rattle.sheet_import.proofs.lines.line_fault.Goals as goal

pub returns-in_err-count : goal.returns-in_err-count
returns-in_err-count c =
    let a = c.args in
    let none = c.in_err-count.ensures in
    let p = err_from_is_err_and c.from_residual.result c.from_residual.ensures.1 in
    rw (p.1, p.2) (stray _ _ none.ok_part none.value ∙ fault_27 a.rows a.line.now (sym c.count_fields.ensures ∙ none.ok_part))

pub returns-then-count-texts : goal.returns-then-count-texts
returns-then-count-texts c =
    let a = c.args in
    fault_28 a.rows a.line.now _ (sym c.count_fields.ensures ∙ c.in_ok-count.ensures.ok_part) (λ e. c.if-count-texts.true (omega (arith, c.texts.ensures, e)))

pub are_numbers-requires : goal.are_numbers-requires
are_numbers-requires c = counted_read c.args.rows c.args.line.now _ (sym c.count_fields.ensures ∙ c.in_ok-count.ensures.ok_part)

pub returns-then-are_numbers : goal.returns-then-are_numbers
returns-then-are_numbers c =
    let a = c.args in
    fault_none a.rows a.line.now c.in_ok-count.count (sym c.count_fields.ensures ∙ c.in_ok-count.ensures.ok_part) (omega (arith, c.texts.ensures)) (sym c.if-are_numbers.ensures)

pub returns-else-are_numbers : goal.returns-else-are_numbers
returns-else-are_numbers c =
    let a = c.args in
    fault_29 a.rows a.line.now c.in_ok-count.count (sym c.count_fields.ensures ∙ c.in_ok-count.ensures.ok_part) (omega (arith, c.texts.ensures)) (sym c.if-are_numbers.ensures)
