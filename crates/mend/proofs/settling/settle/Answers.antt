use mathlib.Core.Path.{◌≡◌, sym, ◌∙◌}
use Prim.Native.Nat.{◌+◌}
use native.Mathlib.Omega.{arith}
use lib.Dec.{ltb}
use lib.ListN.{get_or}
use borrow.Author.Tests.{ltb-false}
use Rattle.schedule.specs.Quantities.{deadline, run}
use Rattle.schedule.specs.inside.Ordering.{number}
use Rattle.schedule.proofs.InOrder.{order_at}
use Rattle.mend.specs.inside.Settling.{latest}
use Rattle.mend.proofs.Outcome.{mended_comes_out, none_late, some_late}
use Rattle.mend.proofs.Standing.{stands_first, Turn, turn, stands_last}
use Rattle.mend.proofs.settling.settle.Goals as goal
use Rattle.mend.proofs.settling.settle.Goals.{In-loop-done, After-is_late}

-- The turn of the next job in order.
turned : (c : In-loop-done) → let l = c.loop-done in
    Turn c.args.r c.args.given.now l.starts l.end l.done (get_or c.running_order-order.result l.done (number 0)).0
turned c =
    let l = c.loop-done in
    turn c.args.r c.args.given.now c.requires.0 l.starts l.end l.done l.invariant c.loop-done-test.true (get_or c.running_order-order.result l.done (number 0)).0
    (order_at c.args.r c.args.given.now c.requires.1 c.running_order-order.result c.running_order-order.ensures l.done)

tested : (c : After-is_late) → let R = c.args.r in let j = (get_or c.running_order-order.result c.loop-done.done (number 0)).0 in
    c.is_late.result ≡ ltb (deadline R j) (latest R c.args.given.now c.loop-done.end j + run R j)
tested c = rw c.latest-start.ensures at c.is_late.ensures

pub running_order-order-requires : goal.running_order-order-requires
running_order-order-requires c = let p = c.requires in omega (arith, p.0, p.1)

pub loop-done-init : goal.loop-done-init
loop-done-init c = stands_first c.args.r c.args.given.now c.requires.0

pub offset_bounds-jobs-j : goal.offset_bounds-jobs-j
offset_bounds-jobs-j c = omega (arith, (turned (goal.at.offset_bounds-jobs-j c).In-loop-done).known, c.requires.0)

pub bounds-jobs-j : goal.bounds-jobs-j
bounds-jobs-j c = omega (arith, (turned (goal.at.bounds-jobs-j c).In-loop-done).known, c.requires.0)

pub offset_bounds-given-j : goal.offset_bounds-given-j
offset_bounds-given-j c = omega (arith, (turned (goal.at.offset_bounds-given-j c).In-loop-done).known, c.requires.0)

pub offset_bounds-starts-j : goal.offset_bounds-starts-j
offset_bounds-starts-j c = omega (arith, (turned (goal.at.offset_bounds-starts-j c).In-loop-done).known, c.requires.0)

pub bounds-starts-j : goal.bounds-starts-j
bounds-starts-j c = omega (arith, (turned (goal.at.bounds-starts-j c).In-loop-done).known, c.requires.0)

pub bounds-given-j : goal.bounds-given-j
bounds-given-j c = omega (arith, (turned (goal.at.bounds-given-j c).In-loop-done).known, c.requires.1)

pub returns-then-is_late : goal.returns-then-is_late
returns-then-is_late c =
    let p = goal.at.returns-then-is_late c in
    let R = c.args.r in
    let g = c.args.given.now in
    (_, mended_comes_out R g c.requires.0, some_late R g c.requires.0 _ ((turned p.In-loop-done).late (sym (tested p.After-is_late) ∙ c.if-is_late.true)))

pub overflow_add-end : goal.overflow_add-end
overflow_add-end c =
    let p = goal.at.overflow_add-end c in
    let R = c.args.r in
    let j = (get_or c.running_order-order.result c.loop-done.done (number 0)).0 in
    let due = ltb-false (deadline R j) (latest R c.args.given.now c.loop-done.end j + run R j) (sym (tested p.After-is_late) ∙ c.if-is_late.false) in
    rw c.latest-start.ensures (omega (arith, due, c.requires.0.ends j (turned p.In-loop-done).known, c.requires.0))

pub loop-done-preserved : goal.loop-done-preserved
loop-done-preserved c =
    let p = goal.at.loop-done-preserved c in
    rw c.latest-start.ensures ((turned p.In-loop-done).more (sym (tested p.After-is_late) ∙ c.if-is_late.false))

pub returns : goal.returns
returns c =
    let l = c.loop-done in
    let R = c.args.r in
    let g = c.args.given.now in
    let e = stands_last R g c.requires.0 l.starts l.end l.done l.invariant c.loop-done-test.false in
    (_, none_late R g c.requires.0 e.0, e.1)
