-- `request::jobs::jobs_of` meets its contract.
use borrow.Author.Tests.{eq-eqb, ne_eqb}
use Rattle.request.specs.Format.{jobs_of}
use Rattle.request.proofs.jobs.jobs_of.Goals as goal

pub returns-then-tasks-eq0 : goal.returns-then-tasks-eq0
unfolding jobs_of
returns-then-tasks-eq0 c = rw (eq-eqb _ _ c.if-tasks-eq0.true) c.listed_jobs.ensures

pub returns-else-tasks-eq0 : goal.returns-else-tasks-eq0
unfolding jobs_of
returns-else-tasks-eq0 c = rw (ne_eqb _ _ c.if-tasks-eq0.false, ← c.requires.2) c.unfold.ensures
