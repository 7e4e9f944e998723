-- `planner::recorders::rows_of` meets its contract.
use native.Mathlib.Nat.{mul-le-mul}
use native.Mathlib.Omega.{arith}
use Rattle.std.proofs.lemmas.Result.{err_from_is_err_and}
use Rattle.schedule.specs.Visiting.{plan_energy}
use Rattle.schedule.proofs.Outcome.{plan_rows}
use Rattle.planner.specs.Promises.{stops, faulty, feasible, gives_such}
use Rattle.planner.proofs.Refusing.{unless_equal, unless_enough}
use Rattle.planner.proofs.recorders.rows_of.Goals as goal

pub returns-then-starts-r : goal.returns-then-starts-r
returns-then-starts-r c = rw c.from.ensures (stops c.if-starts-r.true)

pub overflow_mul-r : goal.overflow_mul-r
overflow_mul-r c = let v = c.requires in omega (arith, mul-le-mul v.few_devices v.few_ticks)

pub returns-then-out-r : goal.returns-then-out-r
returns-then-out-r c = rw c.from-then-out-r.ensures (unless_equal c.if-starts-r.false (stops c.if-out-r.true))

pub returns-in_err-judge : goal.returns-in_err-judge
returns-in_err-judge c =
    let p = err_from_is_err_and c.from_residual.result c.from_residual.ensures.1 in
    rw (p.1, p.2) (unless_equal c.if-starts-r.false (unless_enough c.if-out-r.false (faulty c.in_err-judge.ensures)))

pub returns : goal.returns
unfolding plan_energy
returns c =
    let w = c.write_rows.ensures in
    let g = c.in_ok-judge.ensures in
    rw (w.0, w.1)
    (unless_equal g.one_each (unless_enough c.if-out-r.false
    (feasible g (gives_such (plan_rows _ c.requires _)))))
