-- `tables::laying::push_job` meets its contract.
use Rattle.tables.specs.inside.Held.{appended}
use Rattle.tables.proofs.laying.push_job.Goals as goal

pub returns : goal.returns
unfolding appended
returns c = rw (c.push.ensures, c.push_pair-c.ensures, c.push_pair-b.ensures, c.push_pair-a.ensures)
