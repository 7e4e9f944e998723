-- `visit::stages::few_visit` meets its contract.
use Rattle.stored.proofs.Clearing.{zeros}
use Rattle.visit.proofs.Finding.{lends_clear, ran_as}
use Rattle.visit.proofs.stages.few_visit.Goals as goal

pub whole_visit-requires : goal.whole_visit-requires
whole_visit-requires c = lends_clear _ _ _ c.requires (zeros 1)

pub returns : goal.returns
returns c = ran_as _ _ _ _ _ c.min.ensures _ c.whole_visit.ensures
