-- `table_bytes::tables_from` meets its contract.
use native.Mathlib.Omega.{arith}
use Rattle.table_bytes.proofs.Sizes.{tables_long}
use Rattle.table_bytes.proofs.tables_from.Goals as goal

pub devices_in-devices-requires : goal.devices_in-devices-requires
devices_in-devices-requires c = let l = tables_long c.args.s.now c.requires in rw c.kind_named-kind.ensures (l.0, omega (arith, l.1))

pub tasks_from-requires : goal.tasks_from-requires
tasks_from-requires c = (tables_long c.args.s.now c.requires).0

pub tasks_in-tasks-requires : goal.tasks_in-tasks-requires
tasks_in-tasks-requires c = let l = tables_long c.args.s.now c.requires in rw c.tasks_from.ensures.0 (l.0, l.1)

pub jobs_from-requires : goal.jobs_from-requires
jobs_from-requires c = (tables_long c.args.s.now c.requires).0

pub jobs_in-jobs-requires : goal.jobs_in-jobs-requires
jobs_in-jobs-requires c = rw c.jobs_from.ensures.0 ((tables_long c.args.s.now c.requires).0, omega (arith, c.requires.ends))
