-- `cheapest::least_plan` meets its contract.
use mathlib.Core.Path.{refl, sym}
use Rattle.std.proofs.lemmas.Result.{err_from_is_err_and}
use Rattle.request.proofs.Accepted.{accepted_valid}
use Rattle.planner.specs.Promises as Frame
use Rattle.cheapest.proofs.least_plan.Goals as goal

pub returns-in_err-read : goal.returns-in_err-read
returns-in_err-read c =
    let e = err_from_is_err_and c.from_residual.result c.from_residual.ensures.1 in
    let r = sym c.in_err-read.ensures in
    rw (e.1, e.2) (record { planned = Frame.OfFile.refused r; lent = (Frame.OfFile.refused r, λ unsought. refl) })

pub least_of-requires : goal.least_of-requires
least_of-requires c = accepted_valid _ _ (sym c.in_ok-read.ensures)

pub returns : goal.returns
returns c =
    let recorded = sym c.in_ok-read.ensures in
    let p = c.least_of.ensures in
    record { planned = Frame.OfFile.read recorded p.planned; lent = (Frame.OfFile.read recorded p.counted, p.lent) }
