-- `planner::recorders::search_in_of` meets its contract.
use Rattle.std.specs.Prelude.{Ok, Err}
use Rattle.std.proofs.lemmas.Result.{err_from_is_err_and}
use Rattle.planner.proofs.Searching.{search_is, search_keeps}
use Rattle.planner.proofs.recorders.search_in_of.Goals as goal

pub returns-in_err-found : goal.returns-in_err-found
returns-in_err-found c =
    let p = err_from_is_err_and c.from_residual.result c.from_residual.ensures.1 in
    let s = c.in_err-found.ensures in
    rw (p.1, p.2) (record { planned = search_is _ _ _ c.requires _ _ s.finds; lent = search_keeps c.args.r.horizon (Err c.in_err-found.field-0.0) _ _ s.within })

pub returns : goal.returns
returns c =
    let s = c.in_ok-found.ensures in
    record { planned = search_is _ _ _ c.requires _ _ s.finds; lent = search_keeps c.args.r.horizon (Ok c.in_ok-found.found) _ _ s.within }
