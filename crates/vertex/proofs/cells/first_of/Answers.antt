-- `vertex::cells::first_of` meets its contract. (It would be proved with no file; with one a wrong program is refused at the fact itself.)
use borrow.Author.Rules.{rules}
use Rattle.vertex.proofs.cells.first_of.Goals as goal

pub returns-then-unused : goal.returns-then-unused
returns-then-unused c = search rules
