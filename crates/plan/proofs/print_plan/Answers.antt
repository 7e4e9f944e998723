-- `plan::print_plan` meets its contract.
use native.Mathlib.Omega.{arith}
use lib.ListN.{length-take}
use Rattle.plan.proofs.print_plan.Goals as goal

pub slice_bounds-plan_lines-end : goal.slice_bounds-plan_lines-end
slice_bounds-plan_lines-end c =
    let v = c.requires in
    simp length-take (omega (arith, v.few_jobs, c.search_of.auto))

pub plan_lines-requires : goal.plan_lines-requires
plan_lines-requires c =
    let v = c.requires in
    (v, simp length-take (omega (arith, v.few_jobs)))
