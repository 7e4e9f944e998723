-- `request::sections::is_mixed` meets its contract.
use borrow.Author.Tests.{eq-eqb, ne_eqb}
use Rattle.request.specs.Format.{mixed}
use Rattle.request.proofs.sections.is_mixed.Goals as goal

pub returns-then-pair_at-ne0 : goal.returns-then-pair_at-ne0
unfolding mixed
returns-then-pair_at-ne0 c = rw (ne_eqb _ _ c.if-tasks-ne0.true, ← c.pair_at.ensures, ne_eqb _ _ c.if-pair_at-ne0.true)

pub returns-else-pair_at-ne0 : goal.returns-else-pair_at-ne0
unfolding mixed
returns-else-pair_at-ne0 c = rw (ne_eqb _ _ c.if-tasks-ne0.true, ← c.pair_at.ensures, eq-eqb _ _ c.if-pair_at-ne0.false)

pub returns-else-tasks-ne0 : goal.returns-else-tasks-ne0
unfolding mixed
returns-else-tasks-ne0 c = rw (eq-eqb _ _ c.if-tasks-ne0.false)
