-- `faults::sections::walk_in` meets its contract.
use mathlib.Core.Path.{◌≡◌, refl}
use native.Mathlib.Omega.{arith}
use Rattle.std.proofs.lemmas.Result.{err_from_is_err_and}
use Rattle.base.proofs.Numbered.{some_number}
use Rattle.faults.specs.Places.{at_fault, no_fault, judged}
use Rattle.base.specs.Bytes.{byte_at}
use Rattle.base.proofs.Paths.{paths}
use Rattle.base.proofs.Records.{after_from_lem}
use Rattle.tables.specs.Records.{device_size}
use Rattle.tables.specs.Layout.{tasks_place}
use Rattle.request.specs.declared.Section.TheVariants.{DeviceRecords}
use Rattle.request.proofs.Checked.{records_room}
use Rattle.faults.specs.inside.Walk.{task_walk, walk}
use Rattle.faults.proofs.Walking.{walks, clear_records}
use Rattle.faults.proofs.sections.walk_in.Goals as goal

pub returns-then-s-lt2 : goal.returns-then-s-lt2
unfolding walk
returns-then-s-lt2 c = search paths

pub returns-then-s-lt3 : goal.returns-then-s-lt3
unfolding walk
returns-then-s-lt3 c = search paths

pub overflow_cast-n : goal.overflow_cast-n
overflow_cast-n c = omega (arith, c.shared_slice_known-2-1.given 2)

pub returns-then-n-gt8 : goal.returns-then-n-gt8
unfolding walk
returns-then-n-gt8 c = search paths

pub returns-in_err-records_place : goal.returns-in_err-records_place
unfolding walk
returns-in_err-records_place c =
    let p = err_from_is_err_and c.from_residual.result c.from_residual.ensures.1 in
    let h = c.in_err-records_place in
    let e = h.ensures in
    let z : (at_fault h.field-0.0).number ≡ 0 → ⊥ = λ q. omega (arith, some_number h.field-0.0.reason) in
    rw (p.1, p.2) (search (paths, walks, e, z))

pub device_place-requires : goal.device_place-requires
device_place-requires c =
    records_room _ (DeviceRecords _) _ 3 (omega arith) (clear_records _ _ _ _ _ c.in_ok-records_place.ensures refl)

pub task_fault-requires : goal.task_fault-requires
task_fault-requires c =
    let room = records_room _ (DeviceRecords _) _ 3 (omega arith) (clear_records _ _ _ _ _ c.in_ok-records_place.ensures refl) in
    let a = c.args in
    rw c.device_place.ensures (room, after_from_lem (device_size a.kind a.s.now) (byte_at a.s.now 2) 3, omega arith)

pub returns : goal.returns
unfolding walk
returns c =
    let placed : (let a = c.args in judged c.task_fault.result ≡ task_walk a.mark a.s.now (byte_at a.s.now 2) (tasks_place a.kind a.s.now)) = rw c.device_place.ensures at c.task_fault.ensures in
    let e = c.in_ok-records_place.ensures in
    let z : no_fault.number ≡ 0 = refl in
    search (paths, walks, placed, e, z)
