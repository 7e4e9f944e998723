-- `faults::sections::task_fault` meets its contract.
use mathlib.Core.Path.{◌≡◌, refl}
use native.Mathlib.Omega.{arith}
use Rattle.std.proofs.lemmas.Result.{err_from_is_err_and}
use Rattle.base.proofs.Numbered.{some_number}
use Rattle.faults.specs.Places.{at_fault, no_fault}
use Rattle.base.proofs.Paths.{paths}
use Rattle.request.proofs.Checked.{tasks_sound}
use Rattle.faults.specs.inside.Walk.{task_walk}
use Rattle.faults.proofs.Walking.{walks, clear_records}
use Rattle.faults.proofs.sections.task_fault.Goals as goal

pub returns-then-s-at : goal.returns-then-s-at
unfolding task_walk
returns-then-s-at c = search paths

pub overflow_cast-tasks : goal.overflow_cast-tasks
overflow_cast-tasks c = omega (arith, c.shared_slice_known-2-1.given c.args.at)

pub returns-then-tasks-gt8 : goal.returns-then-tasks-gt8
unfolding task_walk
returns-then-tasks-gt8 c = search paths

pub returns-in_err-records_place : goal.returns-in_err-records_place
unfolding task_walk
returns-in_err-records_place c =
    let p = err_from_is_err_and c.from_residual.result c.from_residual.ensures.1 in
    let h = c.in_err-records_place in
    let e = h.ensures in
    let z : (at_fault h.field-0.0).number ≡ 0 → ⊥ = λ q. omega (arith, some_number h.field-0.0.reason) in
    rw (p.1, p.2) (search (paths, walks, e, z))

pub job_fault-requires : goal.job_fault-requires
job_fault-requires c =
    let ok = clear_records _ _ _ _ _ c.in_ok-records_place.ensures refl in
    let sound = tasks_sound _ _ _ _ (omega arith) ok in
    (sound, omega arith, omega arith, omega (arith, sound.there), omega arith)

pub returns : goal.returns
unfolding task_walk
returns c =
    let e = c.in_ok-records_place.ensures in
    let z : no_fault.number ≡ 0 = refl in
    search (paths, walks, e, z)
