-- `calls::floe_search` meets its contract.
use Rattle.planner.specs.Promises.{SearchOf}
use Rattle.calls.specs.Calls.{StartsOf}
use Rattle.calls.proofs.Crossing.{cramped_call, roomy_call}
use Rattle.calls.proofs.floe_search.Goals as goal

pub returns-then-res-lt-RESULT : goal.returns-then-res-lt-RESULT
returns-then-res-lt-RESULT c = let s = c.args in cramped_call _ _ s.starts.now (StartsOf (SearchOf s.budget) s.starts.now) c.if-res-lt-RESULT.true c.cramped.ensures

pub returns : goal.returns
returns c = let s = c.args in let told = c.tell.ensures in rw (told.0, told.1, c.told.ensures) (roomy_call _ _ s.starts.now (StartsOf (SearchOf s.budget) s.starts.now) c.if-res-lt-RESULT.false c.search_bytes.ensures.planned)
