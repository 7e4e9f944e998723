-- `possible::any_plan` meets its contract.
use mathlib.Core.Path.{sym}
use Rattle.std.proofs.lemmas.Result.{err_from_is_err_and}
use Rattle.request.proofs.Accepted.{accepted_valid}
use Rattle.planner.specs.Promises as Frame
use Rattle.possible.proofs.any_plan.Goals as goal

pub returns-in_err-read : goal.returns-in_err-read
returns-in_err-read c =
    let p = err_from_is_err_and c.from_residual.result c.from_residual.ensures.1 in
    rw (p.1, p.2) (Frame.OfFile.refused (sym c.in_err-read.ensures))

pub first_schedule-requires : goal.first_schedule-requires
first_schedule-requires c = accepted_valid _ _ (sym c.in_ok-read.ensures)

pub returns : goal.returns
returns c = Frame.OfFile.read (sym c.in_ok-read.ensures) c.first_schedule.ensures
