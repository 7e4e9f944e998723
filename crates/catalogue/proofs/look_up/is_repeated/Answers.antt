-- `catalogue::look_up::is_repeated` meets its contract.
use Rattle.std.proofs.Common.{◌∙◌}
use Rattle.catalogue.proofs.Faults.{some_repeated}
use Rattle.catalogue.proofs.look_up.is_repeated.Goals as goal

pub returns : goal.returns
returns c = c.is_some.ensures ∙ some_repeated _ _ c.repeated_at.ensures
