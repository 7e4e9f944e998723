-- `calls_least::floe_least` meets its contract.
use Rattle.calls.specs.Calls.{StartsOf}
use Rattle.calls.proofs.Crossing.{cramped_call_in, roomy_call_in}
use Rattle.cheapest.specs.Promises.{CountedLeastOf, Sought}
use Rattle.calls_least.proofs.Only.{less_called}
use Rattle.calls_least.proofs.floe_least.Goals as goal

pub returns-then-res-lt-RESULT : goal.returns-then-res-lt-RESULT
returns-then-res-lt-RESULT c =
    let s = c.args in
    let w = cramped_call_in Sought _ _ _ s.starts.now (StartsOf (CountedLeastOf s.budget) s.starts.now) c.if-res-lt-RESULT.true c.cramped.ensures in
    record { called = less_called _ _ _ _ w; lent = w }

pub returns : goal.returns
returns c =
    let s = c.args in
    let told = c.tell.ensures in
    let w = roomy_call_in Sought _ _ _ s.starts.now (StartsOf (CountedLeastOf s.budget) s.starts.now) c.if-res-lt-RESULT.false c.least_bytes.ensures.planned c.least_bytes.ensures.lent in
    rw (told.0, told.1, c.told.ensures) (record { called = less_called _ _ _ _ w; lent = w })
