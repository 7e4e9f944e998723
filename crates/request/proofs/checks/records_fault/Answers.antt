-- `request::checks::records_fault` meets its contract.
use mathlib.Core.Path.{◌≡◌, sym, ap, ◌∙◌}
use Prim.Native.Nat.{ℕ, ◌<◌, ◌≤◌, ◌+◌, ◌-◌}
use native.Mathlib.Omega.{arith}
use Rattle.std.proofs.lemmas.Result.{err_from_is_err_and}
use Rattle.base.proofs.Numbered.{not_0}
use Rattle.base.proofs.Records.{first_none, first_stop, first_pass}
use Rattle.request.specs.Format.{records_fault}
use Rattle.request.proofs.Checked.{record_room}
use Rattle.request.proofs.checks.records_fault.Goals as goal

pub loop-init : goal.loop-init
loop-init c =
    let a = c.args in
    let all : a.count ≡ a.count - 0 = omega arith in
    (c.requires, ap (λ (n : ℕ). records_fault a.s.now a.k n a.from) all)

pub returns-in_err-record_fault : goal.returns-in_err-record_fault
returns-in_err-record_fault c =
    let l = c.loop in
    let more : 0 < c.args.count - l.counter = omega (arith, c.loop-test.true) in
    let p = err_from_is_err_and c.from_residual.result c.from_residual.ensures.1 in
    rw (p.1, p.2) (first_stop _ _ _ _ _ more c.in_err-record_fault.ensures (not_0 _) ∙ sym l.invariant.1)

pub overflow_add-at : goal.overflow_add-at
overflow_add-at c = rw c.size_of-at.ensures (omega (arith, record_room _ _ _ c.loop.invariant.0 c.in_ok-record_fault.ensures))

pub loop-preserved : goal.loop-preserved
loop-preserved c =
    let l = c.loop in
    let more : 0 < c.args.count - l.counter = omega (arith, c.loop-test.true) in
    let fewer : c.args.count - (l.counter + 1) ≡ c.args.count - l.counter - 1 = omega arith in
    rw (c.size_of-at.ensures, fewer)
    (record_room _ _ _ l.invariant.0 c.in_ok-record_fault.ensures, l.invariant.1 ∙ first_pass _ _ _ _ more c.in_ok-record_fault.ensures)

pub returns : goal.returns
returns c =
    let l = c.loop in
    let none : c.args.count - l.counter ≤ 0 = omega (arith, c.loop-test.false) in
    first_none _ _ _ _ none ∙ sym l.invariant.1
