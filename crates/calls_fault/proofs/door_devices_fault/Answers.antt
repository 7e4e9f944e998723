-- `calls_fault::door_devices_fault` meets its contract.
use Rattle.calls_fault.specs.FaultCall.{closed, counted}
use Rattle.calls_fault.proofs.door_devices_fault.Goals as goal

pub returns-then-res-lt-COUNTED : goal.returns-then-res-lt-COUNTED
returns-then-res-lt-COUNTED c = closed c.if-res-lt-COUNTED.true

pub returns : goal.returns
returns c =
    let it = c.tell_line.ensures in
    rw (it.0, it.1) (counted c.if-res-lt-COUNTED.false c.devices_fault.ensures)
