-- `doorway::is_open` meets its contract.
use borrow.Author.Rules.{rules}
use Rattle.doorway.proofs.is_open.Goals as goal

pub returns-then-starts-eq0 : goal.returns-then-starts-eq0
returns-then-starts-eq0 c = search rules

pub returns-else-starts-eq0 : goal.returns-else-starts-eq0
returns-else-starts-eq0 c = search rules
