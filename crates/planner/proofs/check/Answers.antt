-- `planner::check` meets its contract.
use mathlib.Core.Path.{sym}
use Rattle.std.proofs.lemmas.Result.{err_from_is_err_and}
use Rattle.planner.specs.Promises as P
use Rattle.planner.proofs.check.Goals as goal

pub returns-in_err-accepted : goal.returns-in_err-accepted
returns-in_err-accepted c =
    let p = err_from_is_err_and c.from_residual.result c.from_residual.ensures.1 in
    rw (p.1, p.2) (P.OfFile.refused (sym c.in_err-accepted.ensures))

pub returns : goal.returns
returns c = P.OfFile.read (sym c.in_ok-accepted.ensures) P.CheckOf.accepted
