-- `calls::floe_sizes` meets its contract.
use Rattle.calls.proofs.Crossing.{cramped_call, roomy_call}
use Rattle.calls.proofs.floe_sizes.Goals as goal

pub returns-then-res-lt-RESULT : goal.returns-then-res-lt-RESULT
returns-then-res-lt-RESULT c = cramped_call _ _ _ _ c.if-res-lt-RESULT.true c.cramped.ensures

pub returns : goal.returns
returns c = let told = c.tell.ensures in rw (told.0, told.1, c.told.ensures) (roomy_call _ _ _ _ c.if-res-lt-RESULT.false c.sizes.ensures)
