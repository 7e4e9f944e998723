-- `mend::mend_recorder` meets its contract.
use mathlib.Core.Path.{sym, ◌∙◌}
use native.Mathlib.Omega.{arith}
use lib.ListN.{length}
use Rattle.mend.specs.Promises as P
use Rattle.mend.specs.Promises.{lending, Room}
use Rattle.mend.proofs.Moves.{moves_few}
use Rattle.mend.proofs.Promised.{lacks_none, lacks_not, settled_late, settled_given}
use Rattle.mend.proofs.mend_recorder.Goals as goal
use Rattle.mend.proofs.mend_recorder.Goals.{After-settle}

pub returns-then-given-n : goal.returns-then-given-n
returns-then-given-n c = rw c.from.ensures (P.MendOf.unequal c.if-given-n.true)

pub returns-then-lacks_room : goal.returns-then-lacks_room
returns-then-lacks_room c =
    rw c.from-then-lacks_room.ensures (P.MendOf.short c.if-given-n.false
    (λ h. lacks_none _ _ _ (sym c.lacks_room.ensures ∙ c.if-lacks_room.true) h.starts h.moved))

-- What is lent has room.
room : (c : After-settle) → Room c.args.r (lending c.args.starts.now c.args.moved.now)
room c = let h = lacks_not _ _ _ (sym c.lacks_room.ensures ∙ c.if-lacks_room.false) in record { starts = h.0; moved = h.1 }

pub returns-in-Err : goal.returns-in-Err
returns-in-Err c =
    let w = c.in-Err.ensures in
    rw c.from-in-Err.ensures (settled_late _ _ _ c.if-given-n.false (room (goal.at.returns-in-Err c).After-settle) w.1 w.2)

pub write_starts-requires : goal.write_starts-requires
write_starts-requires c = let r = room (goal.at.write_starts-requires c).After-settle in omega (arith, c.requires)

pub list_moves-count-requires : goal.list_moves-count-requires
list_moves-count-requires c = let r = room (goal.at.list_moves-count-requires c).After-settle in omega (arith, c.if-given-n.false, c.requires)

pub overflow_cast-result : goal.overflow_cast-result
overflow_cast-result c =
    let g = c.args.given.now in
    let few = moves_few g c.in-Ok.new (length g) in
    rw c.list_moves-count.ensures.number (omega (arith, c.if-given-n.false, c.requires))

pub returns : goal.returns
returns c =
    let w = c.list_moves-count.ensures in
    let m = c.in-Ok.ensures in
    rw (w.number, w.list, c.write_starts.ensures, c.if-given-n.false)
    (settled_given _ _ _ c.if-given-n.false (room (goal.at.returns c).After-settle) _ m.0 m.1 m.2)
