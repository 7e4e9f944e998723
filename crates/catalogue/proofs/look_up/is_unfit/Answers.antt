-- `catalogue::look_up::is_unfit` meets its contract.
use Rattle.std.proofs.Common.{◌∙◌}
use Rattle.catalogue.proofs.Faults.{some_unfit}
use Rattle.catalogue.proofs.look_up.is_unfit.Goals as goal

pub returns : goal.returns
returns c = c.is_some.ensures ∙ some_unfit _ _ c.unfit_at.ensures
