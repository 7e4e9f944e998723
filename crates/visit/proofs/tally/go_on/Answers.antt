-- `visit::tally::go_on` meets its contract.
use Rattle.visit.proofs.tally.go_on.Goals as goal

pub returns-then-tally : goal.returns-then-tally
returns-then-tally c = rw c.if-tally.true

pub returns-else-tally : goal.returns-else-tally
returns-else-tally c = rw c.if-tally.false
