-- `calls_first::floe_first` meets its contract.
use Rattle.first.specs.Promises.{FirstOf}
use Rattle.calls.specs.Calls.{StartsOf}
use Rattle.calls.proofs.Crossing.{cramped_call, roomy_call}
use Rattle.calls_first.proofs.floe_first.Goals as goal

pub returns-then-res-lt-RESULT : goal.returns-then-res-lt-RESULT
returns-then-res-lt-RESULT c = let s = c.args in cramped_call _ _ s.starts.now (StartsOf FirstOf s.starts.now) c.if-res-lt-RESULT.true c.cramped.ensures

pub returns : goal.returns
returns c = let s = c.args in let told = c.tell.ensures in rw (told.0, told.1, c.told.ensures) (roomy_call _ _ s.starts.now (StartsOf FirstOf s.starts.now) c.if-res-lt-RESULT.false c.first_bytes.ensures)
