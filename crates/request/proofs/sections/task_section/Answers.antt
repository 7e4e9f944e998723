-- `request::sections::task_section` meets its contract.
use Rattle.std.proofs.lemmas.Result.{err_from_is_err_and}
use Rattle.base.proofs.Numbered.{handed, passed_over}
use Rattle.base.proofs.Paths.{paths}
use native.Mathlib.Omega.{arith}
use Rattle.request.specs.Format.{task_section}
use Rattle.request.proofs.Checked.{tasks_sound}
use Rattle.request.proofs.sections.task_section.Goals as goal

pub returns-then-s-at : goal.returns-then-s-at
unfolding task_section
returns-then-s-at c = search paths

pub overflow_cast-tasks : goal.overflow_cast-tasks
overflow_cast-tasks c = omega (arith, c.shared_slice_known-2-1.given c.args.at)

pub returns-then-tasks-gt8 : goal.returns-then-tasks-gt8
unfolding task_section
returns-then-tasks-gt8 c = search paths

pub returns-in_err-records_fault : goal.returns-in_err-records_fault
unfolding task_section
returns-in_err-records_fault c =
    let p = err_from_is_err_and c.from_residual.result c.from_residual.ensures.1 in
    rw (p.1, p.2) (search (paths, handed, c.in_err-records_fault.ensures))

pub job_section-requires : goal.job_section-requires
job_section-requires c = (tasks_sound _ _ _ _ (omega arith) c.in_ok-records_fault.ensures, omega arith, omega arith)

pub returns : goal.returns
unfolding task_section
returns c = search (paths, passed_over, c.in_ok-records_fault.ensures)
