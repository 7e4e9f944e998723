-- `calls_step::end` meets its contract.
use mathlib.Core.Path.{sym}
use native.Mathlib.Omega.{arith}
use Rattle.std.proofs.lemmas.Result.{err_from_is_err_and}
use Rattle.calls_step.specs.StepCall.{refused, stepped}
use Rattle.calls_step.proofs.Steps.{fit, some_code, energy_fits}
use Rattle.calls_step.proofs.end.Goals as goal

pub returns-in_err-fault_of : goal.returns-in_err-fault_of
returns-in_err-fault_of c =
    let p = err_from_is_err_and c.from_residual.result c.from_residual.ensures.1 in
    let h = c.in_err-fault_of in
    rw (p.1, p.2, h.ensures) (refused (λ z. omega (arith, some_code h.field-0.0, h.ensures, z)))

pub record_in-x-requires : goal.record_in-x-requires
record_in-x-requires c = (fit _ _ (sym c.in_ok-fault_of.ensures)).record_long

pub device_in-requires : goal.device_in-requires
device_in-requires c = (fit _ _ (sym c.in_ok-fault_of.ensures)).device_long

pub put_record-requires : goal.put_record-requires
put_record-requires c = (fit _ _ (sym c.in_ok-fault_of.ensures)).record_long

pub returns : goal.returns
returns c =
    rw (c.put_record.ensures, c.on_end.ensures, c.device_in.ensures, c.record_in-x.ensures)
    (stepped (sym c.in_ok-fault_of.ensures) (energy_fits c.args.bytes.now (λ i. omega (arith, c.slice_known-1.given i))))
