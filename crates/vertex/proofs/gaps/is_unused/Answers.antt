-- `vertex::gaps::is_unused` meets its contract.
use Rattle.vertex.proofs.gaps.is_unused.Goals as goal

pub returns-then-round : goal.returns-then-round
returns-then-round c = rw c.if-round.true
