-- `possible::first_schedule` meets its contract.
use Rattle.std.proofs.lemmas.Result.{err_from_is_err_and}
use Rattle.possible.proofs.Stopping.{first_is}
use Rattle.possible.proofs.Without.{bare_valid}
use Rattle.possible.proofs.first_schedule.Goals as goal

pub first-requires : goal.first-requires
first-requires c =
    let bare = c.without_devices.ensures in
    (bare_valid _ _ bare c.requires, bare.none)

pub returns-in_err-found : goal.returns-in_err-found
returns-in_err-found c =
    let p = err_from_is_err_and c.from_residual.result c.from_residual.ensures.1 in
    rw (p.1, p.2) (first_is _ c.requires _ c.without_devices.ensures _ _ _ _ c.in_err-found.ensures)

pub returns : goal.returns
returns c = first_is _ c.requires _ c.without_devices.ensures _ _ _ _ c.in_ok-found.ensures
