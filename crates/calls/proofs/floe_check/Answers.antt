-- `calls::floe_check` meets its contract.
use Rattle.planner.specs.Promises.{CheckOf}
use Rattle.calls.proofs.Crossing.{cramped_call, roomy_call}
use Rattle.calls.proofs.floe_check.Goals as goal

pub returns-then-res-lt-RESULT : goal.returns-then-res-lt-RESULT
returns-then-res-lt-RESULT c = cramped_call _ _ tt (λ R a u. CheckOf R a) c.if-res-lt-RESULT.true c.cramped.ensures

pub returns : goal.returns
returns c = let told = c.tell.ensures in rw (told.0, told.1, c.told.ensures) (roomy_call _ _ tt (λ R a u. CheckOf R a) c.if-res-lt-RESULT.false c.check.ensures)
