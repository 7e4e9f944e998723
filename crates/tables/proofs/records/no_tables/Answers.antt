-- `tables::records::no_tables` meets its contract.
use Rattle.base.specs.Lists.{up_to, padded}
use Rattle.tables.proofs.records.no_tables.Goals as goal

pub returns : goal.returns
unfolding up_to padded
returns c = rw (c.blank-2.ensures, c.blank.ensures, c.blank_device.ensures)
