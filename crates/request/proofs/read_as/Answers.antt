-- `request::read_as` meets its contract.
use mathlib.Core.Path.{sym, ap, ◌∙◌}
use Rattle.std.proofs.lemmas.Result.{err_from_is_err_and}
use Rattle.base.proofs.Numbered.{not_0}
use Rattle.request.specs.Format.{accepted, refused}
use Rattle.request.proofs.Faultless.{read_faultless, read_fault}
use Rattle.request.proofs.read_as.Goals as goal

pub returns-in_err-fault_of : goal.returns-in_err-fault_of
returns-in_err-fault_of c =
    let p = err_from_is_err_and c.from_residual.result c.from_residual.ensures.1 in
    rw (p.1, p.2) (ap refused c.in_err-fault_of.ensures ∙ sym (read_fault _ _ (λ z. not_0 _ (c.in_err-fault_of.ensures ∙ z))))

pub recorder_in-requires : goal.recorder_in-requires
recorder_in-requires c = c.in_ok-fault_of.ensures

pub returns : goal.returns
returns c = ap accepted c.recorder_in.ensures ∙ sym (read_faultless _ _ c.in_ok-fault_of.ensures)
