-- `tables::records::second_at` meets its contract.
use Rattle.tables.proofs.records.second_at.Goals as goal

pub returns : goal.returns
returns c = cc
