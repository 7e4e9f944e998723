-- `vertex::gaps::gap_with` meets its contract.
use Rattle.vertex.proofs.gaps.gap_with.Goals as goal

pub returns-then-is_unused : goal.returns-then-is_unused
returns-then-is_unused c = rw (← c.is_unused.ensures, c.if-is_unused.true)

pub returns-else-is_unused : goal.returns-else-is_unused
returns-else-is_unused c = rw (← c.is_unused.ensures, c.if-is_unused.false) c.gap_at-gap.ensures
