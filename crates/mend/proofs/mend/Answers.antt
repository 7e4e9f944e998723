-- `mend::mend` meets its contract.
use mathlib.Core.Path.{sym}
use Rattle.std.proofs.lemmas.Result.{err_from_is_err_and}
use Rattle.request.proofs.Accepted.{accepted_valid}
use Rattle.planner.specs.Promises as P
use Rattle.mend.proofs.mend.Goals as goal

pub returns-in_err-read : goal.returns-in_err-read
returns-in_err-read c =
    let p = err_from_is_err_and c.from_residual.result c.from_residual.ensures.1 in
    rw (p.1, p.2) (P.OfFile.refused (sym c.in_err-read.ensures))

pub mend_recorder-requires : goal.mend_recorder-requires
mend_recorder-requires c = accepted_valid _ _ (sym c.in_ok-read.ensures)

pub returns : goal.returns
returns c = P.OfFile.read (sym c.in_ok-read.ensures) c.mend_recorder.ensures
