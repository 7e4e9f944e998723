-- `visit::stages::lent_visit` meets its contract.
use Rattle.visit.proofs.Finding.{lends_clear}
use Rattle.visit.proofs.stages.lent_visit.Goals as goal

pub whole_visit-requires : goal.whole_visit-requires
whole_visit-requires c = lends_clear _ _ _ c.requires c.clear.ensures
