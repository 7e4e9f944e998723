-- `catalogue::order_fault` meets its contract.
use Rattle.std.proofs.Common.{sym, ◌∙◌}
use Rattle.std.proofs.lemmas.Result.{err_from_is_err_and}
use Rattle.base.specs.Bytes.{pieces}
use Rattle.catalogue.specs.Parts.{parts_of}
use Rattle.catalogue.proofs.Faults.{some_unfit, some_repeated}
use Rattle.catalogue.proofs.Only.{passed, told_bad, told_twice, told_last}
use Rattle.catalogue.proofs.order_fault.Goals as goal

pub returns-in_err-fault_at : goal.returns-in_err-fault_at
returns-in_err-fault_at c =
    let p = err_from_is_err_and c.from_residual.result c.from_residual.ensures.1 in
    rw (p.1, p.2) (told_bad _ _ c.unfit_at.result _ c.unfit_at.ensures c.in_err-fault_at.ensures)

pub repeated_at-requires : goal.repeated_at-requires
repeated_at-requires c =
    sym (some_unfit (parts_of c.args.catalogue.now) c.unfit_at.result c.unfit_at.ensures) ∙ passed _ c.unfit_at.result _ c.in_ok-fault_at.ensures

pub returns-in_err-fault_at-2 : goal.returns-in_err-fault_at-2
returns-in_err-fault_at-2 c =
    let ps = parts_of c.args.catalogue.now in
    let p = err_from_is_err_and c.from_residual-in_err-fault_at-2.result c.from_residual-in_err-fault_at-2.ensures.1 in
    let fit = sym (some_unfit ps c.unfit_at.result c.unfit_at.ensures) ∙ passed _ c.unfit_at.result _ c.in_ok-fault_at.ensures in
    rw (p.1, p.2) (told_twice _ _ c.repeated_at.result _ fit c.repeated_at.ensures c.in_err-fault_at-2.ensures)

pub lacking_at-requires : goal.lacking_at-requires
lacking_at-requires c =
    sym (some_unfit (parts_of c.args.catalogue.now) c.unfit_at.result c.unfit_at.ensures) ∙ passed _ c.unfit_at.result _ c.in_ok-fault_at.ensures

pub returns : goal.returns
returns c =
    let ps = parts_of c.args.catalogue.now in
    let fit = sym (some_unfit ps c.unfit_at.result c.unfit_at.ensures) ∙ passed _ c.unfit_at.result _ c.in_ok-fault_at.ensures in
    let once = sym (some_repeated ps c.repeated_at.result c.repeated_at.ensures) ∙ passed _ c.repeated_at.result _ c.in_ok-fault_at-2.ensures in
    rw c.fault_at-3.ensures (told_last ps (pieces 8 c.args.wanted.now) c.lacking_at.result fit once c.lacking_at.ensures)
