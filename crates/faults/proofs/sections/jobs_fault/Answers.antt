-- `faults::sections::jobs_fault` meets its contract.
use mathlib.Core.Path.{◌≡◌, refl}
use native.Mathlib.Omega.{arith}
use Rattle.std.proofs.lemmas.Result.{err_from_is_err_and}
use Rattle.base.proofs.Numbered.{some_number}
use Rattle.faults.specs.Places.{at_fault, no_fault}
use Rattle.base.proofs.Paths.{paths}
use Rattle.request.proofs.Limits.{limits}
use Rattle.faults.specs.inside.Walk.{jobs_walk}
use Rattle.faults.proofs.Walking.{walks}
use Rattle.faults.proofs.sections.jobs_fault.Goals as goal

pub overflow_cast-count : goal.overflow_cast-count
overflow_cast-count c = omega (arith, c.shared_slice_known-2-1.given c.args.at)

pub returns-then-job_count-gt16 : goal.returns-then-job_count-gt16
unfolding jobs_walk
returns-then-job_count-gt16 c = search (paths, limits, walks)

pub returns-in_err-records_place : goal.returns-in_err-records_place
unfolding jobs_walk
returns-in_err-records_place c =
    let p = err_from_is_err_and c.from_residual.result c.from_residual.ensures.1 in
    let h = c.in_err-records_place in
    let e = h.ensures in
    let z : (at_fault h.field-0.0).number ≡ 0 → ⊥ = λ q. omega (arith, some_number h.field-0.0.reason) in
    rw (p.1, p.2) (search (paths, limits, walks, e, z))

pub overflow_mul-end : goal.overflow_mul-end
overflow_mul-end c = omega (arith, c.shared_slice_known-2-1.given c.args.at)

pub overflow_add-end-2 : goal.overflow_add-end-2
overflow_add-end-2 c = omega (arith, c.shared_slice_known-2-1.given c.args.at)

pub returns-then-end-s : goal.returns-then-end-s
unfolding jobs_walk
returns-then-end-s c =
    let e = c.in_ok-records_place.ensures in
    let z : no_fault.number ≡ 0 = refl in
    search (paths, limits, walks, e, z)

pub returns : goal.returns
unfolding jobs_walk
returns c =
    let e = c.in_ok-records_place.ensures in
    let z : no_fault.number ≡ 0 = refl in
    search (paths, limits, walks, e, z)
