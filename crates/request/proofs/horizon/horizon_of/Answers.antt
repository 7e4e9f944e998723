-- `request::horizon::horizon_of` meets its contract.
use borrow.Author.Tests.{eq-eqb, ne_eqb}
use Rattle.request.specs.Format.{horizon_of}
use Rattle.request.proofs.horizon.horizon_of.Goals as goal

pub returns-then-tasks-eq0 : goal.returns-then-tasks-eq0
unfolding horizon_of
returns-then-tasks-eq0 c = rw (eq-eqb _ _ c.if-tasks-eq0.true, ← c.pair_at.ensures, ← c.from.ensures) c.min.ensures

pub returns-else-tasks-eq0 : goal.returns-else-tasks-eq0
unfolding horizon_of
returns-else-tasks-eq0 c = rw (ne_eqb _ _ c.if-tasks-eq0.false) c.task_horizon.ensures
