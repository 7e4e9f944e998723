-- `vertex::gaps::gap_at` meets its contract.
use Rattle.vertex.proofs.gaps.gap_at.Goals as goal

pub returns-then-later : goal.returns-then-later
returns-then-later c = rw c.if-later.true c.least_from.ensures

pub returns-else-later : goal.returns-else-later
returns-else-later c = rw c.if-later.false c.extra_of.ensures
