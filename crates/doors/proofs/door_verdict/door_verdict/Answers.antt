-- `doors::door_verdict::door_verdict` meets its contract.
use mathlib.Core.Path.{sym}
use native.Mathlib.Omega.{arith}
use lib.Seq.{length-take-le}
use Rattle.planner.specs.Promises.{Judged}
use Rattle.doorway.specs.Doors.{starts_of, shut}
use Rattle.doorway.proofs.Opening.{answered_as, judged_all}
use Rattle.doors.proofs.door_verdict.door_verdict.Goals as goal

pub returns-then-not-is_open : goal.returns-then-not-is_open
returns-then-not-is_open c = shut (c.is_open.ensures.1 c.if-not-is_open.true)

pub slice_bounds-verdict-end : goal.slice_bounds-verdict-end
slice_bounds-verdict-end c = sym (length-take-le _ _ (omega (arith, c.hand_starts-n.ensures.0, c.hand_starts-n.auto)))

pub returns : goal.returns
returns c =
    let s = c.args in
    let opens = c.is_open.ensures.0 c.if-not-is_open.false in
    answered_as s.res.now tt (λ a u. Judged s.file.now (starts_of s.starts.now) a) c.tell.ensures c.told.ensures opens
    (judged_all s.file.now c.hand_starts-n.ensures.1 c.verdict.ensures)
