-- `sheet_import::reading::put_row` meets its contract.
use Rattle.sheet_import.proofs.reading.put_row.Goals as goal

pub put_part-requires : goal.put_part-requires
put_part-requires c = rw c.in-Devices.is at c.requires

pub put_record-requires : goal.put_record-requires
put_record-requires c = rw c.in-Jobs.is at c.requires

pub returns-in-Devices : goal.returns-in-Devices
returns-in-Devices c = rw c.in-Devices.is c.put_part.ensures

pub returns-in-Jobs : goal.returns-in-Jobs
returns-in-Jobs c = rw c.in-Jobs.is c.put_record.ensures
