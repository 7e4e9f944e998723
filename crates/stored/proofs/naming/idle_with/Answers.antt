-- `stored::naming::idle_with` meets its contract.
use borrow.Author.Tests.{lt-ltb, le-ltb}
use Rattle.stored.proofs.naming.idle_with.Goals as goal

pub returns-then-unused : goal.returns-then-unused
returns-then-unused c = rw (lt-ltb 0 c.args.ahead c.if-ahead-gt0.true, c.if-unused.true)

pub returns-else-unused : goal.returns-else-unused
returns-else-unused c = rw (lt-ltb 0 c.args.ahead c.if-ahead-gt0.true, c.if-unused.false) c.min.ensures

pub returns-else-ahead-gt0 : goal.returns-else-ahead-gt0
returns-else-ahead-gt0 c = rw (le-ltb 0 c.args.ahead c.if-ahead-gt0.false) c.min-else-ahead-gt0.ensures
