-- `catalogue::build` meets its contract.
use Rattle.std.proofs.Common.{refl}
use Rattle.std.proofs.lemmas.Result.{err_from_is_err_and}
use Rattle.base.specs.Bytes.{pieces}
use Rattle.base.proofs.Numbered.{not_0}
use Rattle.catalogue.specs.Parts.{parts_of}
use Rattle.catalogue.proofs.Only.{passed_built, fault_built, fault_passed}
use Rattle.catalogue.proofs.build.Goals as goal

pub returns-in_err-order_fault : goal.returns-in_err-order_fault
returns-in_err-order_fault c =
    let p = err_from_is_err_and c.from_residual.result c.from_residual.ensures.1 in
    rw (p.1, p.2) (fault_built _ _ _ _ c.in_err-order_fault.ensures (not_0 _))

pub devices_of-devices-requires : goal.devices_of-devices-requires
devices_of-devices-requires c = let p = fault_passed _ _ c.in_ok-order_fault.ensures refl in (p.0, p.2)

pub returns : goal.returns
returns c =
    let a = c.args in
    let p = fault_passed _ _ c.in_ok-order_fault.ensures refl in
    let devices = c.devices_of-devices in
    passed_built (parts_of a.catalogue.now) (pieces 8 a.wanted.now) _ _ devices.result p.0 p.1 p.2 devices.ensures c.write.ensures
