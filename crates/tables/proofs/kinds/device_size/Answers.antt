-- `tables::kinds::device_size` meets its contract. (The search would find this; it stands here so that a wrong size is refused at it.)
use borrow.Author.Rules.{rules}
use Rattle.tables.proofs.kinds.device_size.Goals as goal

pub returns-in-Second : goal.returns-in-Second
returns-in-Second c = search rules
