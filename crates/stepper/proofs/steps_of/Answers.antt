-- `stepper::steps_of` meets its contract.
use Rattle.std.proofs.lemmas.Result.{err_from_is_err_and}
use Rattle.planner.specs.Promises.{stops, passes, faulty, feasible, gives}
use Rattle.stepper.proofs.Fitting.{past, unfit_refused, fit_passes}
use Rattle.stepper.proofs.steps_of.Goals as goal

pub returns-then-starts-r : goal.returns-then-starts-r
returns-then-starts-r c = rw c.from.ensures (stops c.if-starts-r.true)

pub returns-then-energies-r : goal.returns-then-energies-r
returns-then-energies-r c = rw c.from-then-energies-r.ensures (passes (λ u. u c.if-starts-r.false) (stops c.if-energies-r.true))

pub returns-in_err-judge : goal.returns-in_err-judge
returns-in_err-judge c =
    let p = err_from_is_err_and c.from_residual.result c.from_residual.ensures.1 in
    rw (p.1, p.2) (past c.args.r c.args.starts.now c.args.energies.now c.if-starts-r.false c.if-energies-r.false (faulty c.in_err-judge.ensures))

pub returns-in_err-unfit : goal.returns-in_err-unfit
returns-in_err-unfit c =
    let p = err_from_is_err_and c.from_residual-in_err-unfit.result c.from_residual-in_err-unfit.ensures.1 in
    rw (p.1, p.2)
    (unfit_refused c.args.file.now c.args.r c.args.starts.now c.args.energies.now c.if-energies-r.false c.in_ok-judge.ensures _ c.in_err-unfit.ensures)

pub returns : goal.returns
returns c =
    let w = fit_passes c.args.file.now c.args.r c.in_ok-unfit.ensures in
    rw (c.run_devices.ensures.0, c.run_devices.ensures.1)
    (past c.args.r c.args.starts.now c.args.energies.now c.if-starts-r.false c.if-energies-r.false (feasible c.in_ok-judge.ensures (passes w.0 (passes w.1 gives))))
