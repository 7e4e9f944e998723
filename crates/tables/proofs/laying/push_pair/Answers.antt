-- `tables::laying::push_pair` meets its contract.
use Rattle.tables.specs.inside.Held.{appended}
use Rattle.tables.proofs.laying.push_pair.Goals as goal

pub returns : goal.returns
unfolding appended
returns c = rw (c.push.ensures, c.push-high.ensures)
