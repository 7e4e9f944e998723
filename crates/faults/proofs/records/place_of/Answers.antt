-- `faults::records::place_of` meets its contract.
use Rattle.faults.specs.Places.{place_of}
use Rattle.faults.proofs.records.place_of.Goals as goal

pub returns-in-DeviceRecords : goal.returns-in-DeviceRecords
unfolding place_of
returns-in-DeviceRecords c = rw c.in-DeviceRecords.is

pub returns-in-TaskRecords : goal.returns-in-TaskRecords
unfolding place_of
returns-in-TaskRecords c = rw c.in-TaskRecords.is

pub returns-in-JobRecords : goal.returns-in-JobRecords
unfolding place_of
returns-in-JobRecords c = rw c.in-JobRecords.is
