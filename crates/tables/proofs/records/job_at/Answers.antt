-- `tables::records::job_at` meets its contract.
use Rattle.tables.proofs.records.job_at.Goals as goal

pub returns : goal.returns
returns c = cc
