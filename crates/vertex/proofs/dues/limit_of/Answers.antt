-- `vertex::dues::limit_of` meets its contract.
use borrow.Author.Tests.{eq-eqb, ne_eqb}
use Rattle.vertex.specs.inside.Sums.{limit_for, due_for}
use Rattle.vertex.proofs.dues.limit_of.Goals as goal

pub returns-then-at-j : goal.returns-then-at-j
unfolding limit_for due_for
returns-then-at-j c = rw (eq-eqb _ _ c.if-at-j.true) c.min.ensures

pub returns-else-at-j : goal.returns-else-at-j
unfolding limit_for due_for
returns-else-at-j c = rw (ne_eqb _ _ c.if-at-j.false) c.min-else-at-j.ensures
