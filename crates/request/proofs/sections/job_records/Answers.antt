-- `request::sections::job_records` meets its contract.
use native.Mathlib.Omega.{arith}
use Rattle.std.proofs.lemmas.Result.{err_from_is_err_and}
use Rattle.base.proofs.Numbered.{handed, passed_over}
use Rattle.base.proofs.Paths.{paths}
use Rattle.request.specs.Format.{job_records}
use Rattle.request.proofs.Limits.{limits}
use Rattle.request.proofs.sections.job_records.Goals as goal

pub overflow_cast-count : goal.overflow_cast-count
overflow_cast-count c = omega (arith, c.shared_slice_known-2-1.given c.args.at)

pub returns-then-job_count-gt16 : goal.returns-then-job_count-gt16
unfolding job_records
returns-then-job_count-gt16 c = search (paths, limits)

pub returns-in_err-records_fault : goal.returns-in_err-records_fault
unfolding job_records
returns-in_err-records_fault c =
    let p = err_from_is_err_and c.from_residual.result c.from_residual.ensures.1 in
    rw (p.1, p.2) (search (paths, limits, handed, c.in_err-records_fault.ensures))

pub overflow_mul-count : goal.overflow_mul-count
overflow_mul-count c = omega (arith, c.shared_slice_known-2-1.given c.args.at)

pub overflow_add-at-3 : goal.overflow_add-at-3
overflow_add-at-3 c = omega (arith, c.shared_slice_known-2-1.given c.args.at)

pub returns-then-at-count : goal.returns-then-at-count
unfolding job_records
returns-then-at-count c = search (paths, limits, passed_over, c.in_ok-records_fault.ensures)

pub returns : goal.returns
unfolding job_records
returns c = search (paths, limits, passed_over, c.in_ok-records_fault.ensures)
