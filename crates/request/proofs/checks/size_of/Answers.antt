-- `request::checks::size_of` meets its contract.
use Rattle.request.proofs.checks.size_of.Goals as goal

pub returns-in-DeviceRecords : goal.returns-in-DeviceRecords
returns-in-DeviceRecords c = rw c.in-DeviceRecords.is c.device_size.ensures
