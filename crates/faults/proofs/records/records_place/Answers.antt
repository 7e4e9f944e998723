use mathlib.Core.Path.{◌≡◌, sym, ap, ◌∙◌}
use Prim.Native.Nat.{ℕ, ◌+◌, ◌-◌, ◌<◌, ◌≤◌}
use native.Mathlib.Omega.{arith}
use lib.ListN.{length}
use Rattle.std.proofs.lemmas.Result.{err_from_is_err_and}
use Rattle.request.proofs.Checked.{record_room}
use Rattle.request.specs.Format.{size_of}
use Rattle.faults.specs.inside.Walk.{records_walk}
use Rattle.faults.proofs.Walking.{record_number, one_stop, one_pass, walk_none, walk_stop, walk_next}
use Rattle.faults.proofs.records.records_place.Goals as goal

pub loop-i-init : goal.loop-i-init
loop-i-init c =
    let a = c.args in
    let all : a.count ≡ a.count - 0 = omega arith in
    (c.requires.0, ap (λ (n : ℕ). records_walk a.mark a.s.now a.k n 0 a.from) all)

pub returns-in_err-record_place : goal.returns-in_err-record_place
returns-in_err-record_place c =
    let a = c.args in
    let l = c.loop-i in
    let more : 0 < a.count - l.i = omega arith in
    let p = err_from_is_err_and c.from_residual.result c.from_residual.ensures.1 in
    let one = one_stop a.mark a.s.now a.k l.i l.at c.in_err-record_place.field-0.0 c.in_err-record_place.ensures in
    rw (p.1, p.2) (walk_stop a.mark a.s.now a.k (a.count - l.i) l.i l.at _ more one.0 one.1 ∙ sym l.invariant.1)

pub overflow_add-at : goal.overflow_add-at
overflow_add-at c =
    let a = c.args in
    let l = c.loop-i in
    let passed = one_pass a.mark a.s.now a.k l.i l.at c.in_ok-record_place.ensures in
    let roomy : l.at + size_of a.s.now a.k l.at ≤ length a.s.now = record_room _ _ _ l.invariant.0 (sym (sym (record_number _ _ _ _ _) ∙ passed)) in
    rw c.size_of-at.ensures (omega (arith, roomy))

pub loop-i-preserved : goal.loop-i-preserved
loop-i-preserved c =
    let a = c.args in
    let l = c.loop-i in
    let passed = one_pass a.mark a.s.now a.k l.i l.at c.in_ok-record_place.ensures in
    let roomy : l.at + size_of a.s.now a.k l.at ≤ length a.s.now = record_room _ _ _ l.invariant.0 (sym (sym (record_number _ _ _ _ _) ∙ passed)) in
    rw c.size_of-at.ensures (roomy, l.invariant.1 ∙ walk_next a.mark a.s.now a.k a.count l.i l.at (omega arith) passed)

pub returns : goal.returns
returns c =
    let l = c.loop-i in
    let none : c.args.count - l.i ≤ 0 = omega arith in
    walk_none _ _ _ _ _ _ none ∙ sym l.invariant.1
