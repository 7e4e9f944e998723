-- `planner::recorders::verdict_of` meets its contract.
use mathlib.Core.Path.{sym, subst}
use Rattle.std.proofs.lemmas.Result.{err_from_is_err_and}
use Rattle.schedule.specs.Listing.{Costs}
use Rattle.schedule.proofs.Outcome.{plan_costs}
use Rattle.planner.specs.Promises.{stops, faulty, feasible, gives_such}
use Rattle.planner.proofs.Refusing.{unless_equal}
use Rattle.planner.proofs.recorders.verdict_of.Goals as goal

pub returns-then-starts-r : goal.returns-then-starts-r
returns-then-starts-r c = rw c.from.ensures (stops c.if-starts-r.true)

pub returns-in_err-judge : goal.returns-in_err-judge
returns-in_err-judge c =
    let p = err_from_is_err_and c.from_residual.result c.from_residual.ensures.1 in
    rw (p.1, p.2) (unless_equal c.if-starts-r.false (faulty c.in_err-judge.ensures))

pub returns : goal.returns
returns c =
    let cost = subst (Costs c.args.r c.args.starts.now) (sym c.plan_energy.ensures) (plan_costs _ c.requires _) in
    let g = c.in_ok-judge.ensures in
    unless_equal g.one_each (feasible g (gives_such cost))
