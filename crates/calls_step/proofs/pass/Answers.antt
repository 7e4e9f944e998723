-- `calls_step::pass` meets its contract.
use mathlib.Core.Path.{sym}
use native.Mathlib.Omega.{arith}
use Prim.Native.Nat.{◌≤◌, ◌<◌}
use Rattle.device.specs.Row.{Sound}
use Rattle.steps.specs.Stepping.{pass_over}
use Rattle.std.proofs.lemmas.Result.{err_from_is_err_and}
use Rattle.calls_step.specs.StepCall.{full, refused, stepped}
use Rattle.calls_step.proofs.Steps.{fit, some_code, fit_sound}
use Rattle.calls_step.proofs.pass.Goals as goal

pub returns-in_err-fault_of : goal.returns-in_err-fault_of
returns-in_err-fault_of c =
    let p = err_from_is_err_and c.from_residual.result c.from_residual.ensures.1 in
    let h = c.in_err-fault_of in
    rw (p.1, p.2, h.ensures) (refused (λ z. omega (arith, some_code h.field-0.0, h.ensures, z)))

pub device_in-d-requires : goal.device_in-d-requires
device_in-d-requires c = (fit _ _ (sym c.in_ok-fault_of.ensures)).device_long

pub record_in-x-requires : goal.record_in-x-requires
record_in-x-requires c = (fit _ _ (sym c.in_ok-fault_of.ensures)).record_long

pub energy_ticks-requires : goal.energy_ticks-requires
energy_ticks-requires c = rw c.device_in-d.ensures (fit_sound _ _ (fit _ _ (sym c.in_ok-fault_of.ensures)))

pub returns-then-x-energy_ticks : goal.returns-then-x-energy_ticks
returns-then-x-energy_ticks c =
    let over : 4294967296 ≤ (pass_over c.device_in-d.result c.args.ticks c.record_in-x.result).energy =
    omega (arith, c.if-x-energy_ticks.true, c.energy_ticks.ensures) in
    full (sym c.in_ok-fault_of.ensures) (rw (c.record_in-x.ensures, c.device_in-d.ensures) at over)

pub pass_fitting-requires : goal.pass_fitting-requires
pass_fitting-requires c =
    let sound : Sound c.device_in-d.result = rw c.device_in-d.ensures (fit_sound _ _ (fit _ _ (sym c.in_ok-fault_of.ensures))) in
    let small : (pass_over c.device_in-d.result c.args.ticks c.record_in-x.result).energy < 4294967296 = omega (arith, c.if-x-energy_ticks.false, c.energy_ticks.ensures) in
    (sound, small)

pub put_record-requires : goal.put_record-requires
put_record-requires c = (fit _ _ (sym c.in_ok-fault_of.ensures)).record_long

pub returns : goal.returns
returns c =
    let small : (pass_over c.device_in-d.result c.args.ticks c.record_in-x.result).energy < 4294967296 = omega (arith, c.if-x-energy_ticks.false, c.energy_ticks.ensures) in
    rw (c.put_record.ensures, c.pass_fitting.ensures, c.record_in-x.ensures, c.device_in-d.ensures)
    (stepped (sym c.in_ok-fault_of.ensures) (rw (c.record_in-x.ensures, c.device_in-d.ensures) at small))
