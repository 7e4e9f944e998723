-- `planner::recorders::search_of` meets its contract.
use Rattle.std.proofs.lemmas.Result.{err_from_is_err_and}
use Rattle.planner.proofs.Searching.{search_is}
use Rattle.planner.proofs.recorders.search_of.Goals as goal

pub returns-in_err-found : goal.returns-in_err-found
returns-in_err-found c =
    let p = err_from_is_err_and c.from_residual.result c.from_residual.ensures.1 in
    rw (p.1, p.2) (search_is _ _ _ c.requires _ _ c.in_err-found.ensures)

pub returns : goal.returns
returns c = search_is _ _ _ c.requires _ _ c.in_ok-found.ensures
