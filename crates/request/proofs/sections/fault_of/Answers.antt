-- `request::sections::fault_of` meets its contract.
use Rattle.std.proofs.lemmas.Result.{err_from_is_err_and}
use Rattle.base.proofs.Numbered.{handed, passed_over}
use Rattle.base.proofs.Paths.{paths}
use mathlib.Core.Path.{◌≡◌}
use Rattle.base.specs.Reasons.{number_in}
use native.Mathlib.Omega.{arith}
use Rattle.base.specs.Bytes.{byte_at}
use Rattle.base.proofs.Records.{after_from_lem}
use Rattle.tables.specs.Records.{device_size}
use Rattle.tables.specs.Layout.{tasks_place}
use Rattle.request.proofs.Checked.{records_room}
use Rattle.request.specs.declared.Section.TheVariants.{DeviceRecords}
use Rattle.request.specs.Format.{task_section, fault_as}
use Rattle.request.proofs.sections.fault_of.Goals as goal

pub returns-then-s-lt3 : goal.returns-then-s-lt3
unfolding fault_as
returns-then-s-lt3 c = search paths

pub overflow_cast-n : goal.overflow_cast-n
overflow_cast-n c = omega (arith, c.shared_slice_known-2-1.given 2)

pub returns-then-n-gt8 : goal.returns-then-n-gt8
unfolding fault_as
returns-then-n-gt8 c = search paths

pub returns-in_err-records_fault : goal.returns-in_err-records_fault
unfolding fault_as
returns-in_err-records_fault c =
    let p = err_from_is_err_and c.from_residual.result c.from_residual.ensures.1 in
    rw (p.1, p.2) (search (paths, handed, c.in_err-records_fault.ensures))

pub device_place-requires : goal.device_place-requires
device_place-requires c = records_room _ (DeviceRecords _) _ 3 (omega arith) c.in_ok-records_fault.ensures

pub task_section-requires : goal.task_section-requires
task_section-requires c =
    let room = records_room _ (DeviceRecords _) _ 3 (omega arith) c.in_ok-records_fault.ensures in
    let a = c.args in
    rw c.device_place.ensures (room, after_from_lem (device_size a.kind a.s.now) (byte_at a.s.now 2) 3)

pub returns : goal.returns
unfolding fault_as
returns c =
    let placed : (let a = c.args in number_in c.task_section.result ≡ task_section a.s.now (byte_at a.s.now 2) (tasks_place a.kind a.s.now)) = rw c.device_place.ensures at c.task_section.ensures in
    let e = placed in search (paths, passed_over, c.in_ok-records_fault.ensures, e)
