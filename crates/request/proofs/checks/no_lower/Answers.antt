-- `request::checks::no_lower` meets its contract.
use borrow.Author.Tests.{lt-ltb, le-ltb}
use Rattle.request.specs.Format.{no_lower}
use Rattle.request.proofs.checks.no_lower.Goals as goal

pub returns-then-i-levels : goal.returns-then-i-levels
unfolding no_lower
returns-then-i-levels c = rw (lt-ltb _ _ c.if-i-levels.true)

pub returns-else-i-levels : goal.returns-else-i-levels
unfolding no_lower
returns-else-i-levels c = rw (le-ltb _ _ c.if-i-levels.false)
