-- `request::jobs::job_of` meets its contract.
use Rattle.request.proofs.jobs.job_of.Goals as goal

pub returns : goal.returns
returns c = rw c.set_of.ensures
