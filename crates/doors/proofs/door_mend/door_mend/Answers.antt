-- `doors::door_mend::door_mend` meets its contract.
use mathlib.Core.Path.{sym}
use native.Mathlib.Omega.{arith}
use lib.Seq.{length-take-le}
use Rattle.mend.specs.Promises.{lending}
use Rattle.doorway.specs.Doors.{shut, answered}
use Rattle.doors.proofs.Mending.{mend_all}
use Rattle.doors.proofs.door_mend.door_mend.Goals as goal

pub returns-then-not-is_open : goal.returns-then-not-is_open
returns-then-not-is_open c = shut (c.is_open.ensures.1 c.if-not-is_open.true)

pub slice_bounds-mend_bytes-end : goal.slice_bounds-mend_bytes-end
slice_bounds-mend_bytes-end c = sym (length-take-le _ _ (omega (arith, c.hand_starts-n.ensures.0, c.hand_starts-n.auto)))

pub returns : goal.returns
returns c =
    let s = c.args in
    let told = c.tell.ensures in
    let opens = c.is_open.ensures.0 c.if-not-is_open.false in
    rw (told.0, told.1, c.told.ensures) (answered opens (mend_all s.file.now (lending s.out.now s.moved.now) c.hand_starts-n.ensures.1 c.mend_bytes.ensures))
