-- `request::checks::record_fault` meets its contract.
use mathlib.Core.Path.{ap, ◌∙◌}
use native.Mathlib.Omega.{arith}
use Rattle.request.specs.Format.{head_of, record_table}
use Rattle.request.proofs.Checked.{record_short, record_there}
use Rattle.request.proofs.checks.record_fault.Goals as goal

pub returns-then-s-at : goal.returns-then-s-at
returns-then-s-at c = record_short _ _ _ (rw c.head_of.ensures at c.if-s-at.true)

pub device_fault-requires : goal.device_fault-requires
device_fault-requires c = omega (arith, c.head_of.ensures ∙ ap head_of c.in-DeviceRecords.is)

pub task_at-requires : goal.task_at-requires
task_at-requires c = omega (arith, c.head_of.ensures ∙ ap head_of c.in-TaskRecords.is)

pub job_at-requires : goal.job_at-requires
job_at-requires c = omega (arith, c.head_of.ensures ∙ ap head_of c.in-JobRecords.is)

pub returns-in-DeviceRecords : goal.returns-in-DeviceRecords
unfolding record_table
returns-in-DeviceRecords c =
    record_there _ _ _ _
    (rw c.head_of.ensures at c.if-s-at.false)
    (rw c.in-DeviceRecords.is c.device_fault.ensures)

pub returns-in-TaskRecords : goal.returns-in-TaskRecords
unfolding record_table
returns-in-TaskRecords c =
    record_there _ _ _ _
    (rw c.head_of.ensures at c.if-s-at.false)
    (rw c.in-TaskRecords.is (rw c.task_at.ensures at c.task_check.ensures))

pub returns-in-JobRecords : goal.returns-in-JobRecords
unfolding record_table
returns-in-JobRecords c =
    record_there _ _ _ _
    (rw c.head_of.ensures at c.if-s-at.false)
    (rw c.in-JobRecords.is (rw c.job_at.ensures at c.job_check.ensures))
