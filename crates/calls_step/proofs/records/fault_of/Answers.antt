-- `calls_step::records::fault_of` meets its contract.
use borrow.Author.Tests.{eq-eqb, ne_eqb, lt-ltb, le-ltb}
use Rattle.std.proofs.lemmas.Result.{err_from_is_err_and}
use Rattle.calls_step.specs.StepCall.{fault_of}
use Rattle.calls_step.proofs.records.fault_of.Goals as goal
use Rattle.calls_step.proofs.records.fault_of.Goals.{then-device-ne-DEVICE-via-then-device-ne-DEVICE, then-device-ne-DEVICE-via-else-device-ne-DEVICE+then-bytes-ne-RECORD, then-device-ne-DEVICE-via-else-device-ne-DEVICE+else-bytes-ne-RECORD+then-bytes-gt3}

pub returns-then-device-ne-DEVICE : goal.returns-then-device-ne-DEVICE
unfolding fault_of
returns-then-device-ne-DEVICE c =
    elim c.then-device-ne-DEVICE.branch [
      | then-device-ne-DEVICE-via-then-device-ne-DEVICE w ↦ rw (ne_eqb _ 7 w.if-device-ne-DEVICE.true)
      | then-device-ne-DEVICE-via-else-device-ne-DEVICE+then-bytes-ne-RECORD w ↦ rw (eq-eqb _ 7 w.if-device-ne-DEVICE.false, ne_eqb _ 6 w.if-bytes-ne-RECORD.true)
      | then-device-ne-DEVICE-via-else-device-ne-DEVICE+else-bytes-ne-RECORD+then-bytes-gt3 w ↦
          rw (eq-eqb _ 7 w.if-device-ne-DEVICE.false, eq-eqb _ 6 w.if-bytes-ne-RECORD.false, lt-ltb 3 _ w.if-bytes-gt3.true)
    ]

pub returns-then-device-eq0 : goal.returns-then-device-eq0
unfolding fault_of
returns-then-device-eq0 c =
    rw (eq-eqb _ 7 c.if-device-ne-DEVICE.false, eq-eqb _ 6 c.if-bytes-ne-RECORD.false, le-ltb 3 _ c.if-bytes-gt3.false, eq-eqb _ 0 c.if-device-eq0.true)

pub returns-in_err-powers_fault : goal.returns-in_err-powers_fault
unfolding fault_of
returns-in_err-powers_fault c =
    let p = err_from_is_err_and c.from_residual.result c.from_residual.ensures.1 in
    rw (p.1, p.2, eq-eqb _ 7 c.if-device-ne-DEVICE.false, eq-eqb _ 6 c.if-bytes-ne-RECORD.false, le-ltb 3 _ c.if-bytes-gt3.false, ne_eqb _ 0 c.if-device-eq0.false)
    c.in_err-powers_fault.ensures

pub returns : goal.returns
unfolding fault_of
returns c =
    rw (eq-eqb _ 7 c.if-device-ne-DEVICE.false, eq-eqb _ 6 c.if-bytes-ne-RECORD.false, le-ltb 3 _ c.if-bytes-gt3.false, ne_eqb _ 0 c.if-device-eq0.false)
    c.in_ok-powers_fault.ensures
