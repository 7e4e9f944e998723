-- `tables::records::tables_as` meets its contract.
use Rattle.tables.specs.Layout.{tables_as}
use Rattle.tables.proofs.records.tables_as.Goals as goal

pub returns : goal.returns
unfolding tables_as
returns c = rw (c.pair_at.ensures, c.jobs_at-jobs.ensures, c.tasks_at-tasks.ensures, c.devices_at-devices.ensures, c.device_place-at.ensures)
