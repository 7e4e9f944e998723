-- `calls::floe_search_in` meets its contract.
use Prim.Native.Nat.{◌<◌}
use Rattle.planner.specs.declared.Answer.{Answer}
use Rattle.planner.specs.Promises.{SearchOf}
use Rattle.calls.specs.Calls.{StartsOf}
use Rattle.calls.proofs.Only.{called_of}
use Rattle.calls.proofs.Crossing.{cramped_call_in, roomy_call_in}
use Rattle.calls.proofs.floe_search_in.Goals as goal

abbrev Many : Answer → Type 0
Many a = 256 < a.count

pub returns-then-res-lt-RESULT : goal.returns-then-res-lt-RESULT
returns-then-res-lt-RESULT c =
    let s = c.args in
    let w = cramped_call_in Many _ _ _ s.starts.now (StartsOf (SearchOf s.budget) s.starts.now) c.if-res-lt-RESULT.true c.cramped.ensures in
    record { called = called_of w; lent = w }

pub returns : goal.returns
returns c =
    let s = c.args in
    let told = c.tell.ensures in
    let w = roomy_call_in Many _ _ _ s.starts.now (StartsOf (SearchOf s.budget) s.starts.now) c.if-res-lt-RESULT.false c.search_bytes.ensures.planned c.search_bytes.ensures.lent in
    rw (told.0, told.1, c.told.ensures) (record { called = called_of w; lent = w })
