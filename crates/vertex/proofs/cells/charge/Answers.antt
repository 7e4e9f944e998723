-- `vertex::cells::charge` meets its contract.
use Rattle.vertex.specs.inside.Shown.{charged}
use Rattle.vertex.proofs.cells.charge.Goals as goal

pub returns : goal.returns
unfolding charged
returns c = rw (c.first_of-first.ensures, c.is_unused.ensures)
