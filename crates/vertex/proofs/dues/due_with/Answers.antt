-- `vertex::dues::due_with` meets its contract.
use borrow.Author.Tests.{lt-ltb, le-ltb}
use Rattle.vertex.specs.inside.Sums.{due_with}
use Rattle.vertex.proofs.dues.due_with.Goals as goal

pub returns-then-x-d : goal.returns-then-x-d
unfolding due_with
returns-then-x-d c = simp (lt-ltb _ _ c.if-x-d.true)

pub returns-else-x-d : goal.returns-else-x-d
unfolding due_with
returns-else-x-d c = simp (le-ltb _ _ c.if-x-d.false, c.min-second.ensures)
