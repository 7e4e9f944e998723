-- `calls_step::records::state_bytes` meets its contract. (The search would find this; it stands here so that a wrong byte is refused at it.)
use borrow.Author.Rules.{rules}
use Rattle.calls_step.proofs.records.state_bytes.Goals as goal

pub returns-in-Down : goal.returns-in-Down
returns-in-Down c = search rules
