-- `tables::laying::count_of` meets its contract.
use Rattle.tables.specs.inside.Held.{limited}
use Rattle.tables.proofs.laying.count_of.Goals as goal

pub returns-in-Devices : goal.returns-in-Devices
unfolding limited
returns-in-Devices c = rw c.in-Devices.is c.min.ensures

pub returns-in-Tasks : goal.returns-in-Tasks
unfolding limited
returns-in-Tasks c = rw c.in-Tasks.is c.min-in-Tasks.ensures

pub returns-in-Jobs : goal.returns-in-Jobs
unfolding limited
returns-in-Jobs c = rw c.in-Jobs.is c.min-in-Jobs.ensures
