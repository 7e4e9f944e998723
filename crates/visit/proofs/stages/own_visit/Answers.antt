-- `visit::stages::own_visit` meets its contract.
use Rattle.stored.proofs.Clearing.{zeros}
use Rattle.visit.proofs.Finding.{lends_clear}
use Rattle.visit.proofs.stages.own_visit.Goals as goal

pub whole_visit-requires : goal.whole_visit-requires
whole_visit-requires c = lends_clear _ _ _ c.requires (zeros 12288)
