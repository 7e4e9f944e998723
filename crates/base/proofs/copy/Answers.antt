-- `base::copy` meets its contract.
use Rattle.std.proofs.Common.{rules}
use Rattle.base.proofs.copy.Goals as goal

pub returns : goal.returns
returns c = search rules
