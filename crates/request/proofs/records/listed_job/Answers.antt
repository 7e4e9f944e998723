-- `request::records::listed_job` meets its contract.
use Rattle.request.proofs.records.listed_job.Goals as goal

pub returns : goal.returns
returns c = rw (c.set_of.ensures, c.job_at-j.ensures)
