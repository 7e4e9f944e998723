use mathlib.Core.Path.{◌≡◌, refl, ap, sym, ◌∙◌}
use mathlib.Core.Bool.{false}
use Prim.Native.Nat.{ℕ, ◌+◌, ◌-◌, ◌*◌, ◌≤◌, ◌<◌}
use native.Mathlib.Nat.{mul-le-mul_right, sub_self}
use native.Mathlib.Omega.{arith}
use Rattle.device.specs.Row.{energy_of, pattern}
use Rattle.device.specs.inside.Uses.{begin, end, used_in, after_from}
use Rattle.device.proofs.Pattern.{length_pattern}
use Rattle.device.proofs.Least.{energy_none, energy_most}
use Rattle.device.proofs.Spacing.{use_fits, from_by, from_next, energy_use}
use Rattle.device.proofs.energy.energy_from.Goals as goal
use Rattle.device.proofs.energy.energy_from.Goals.{Start, In-loop-i, After-loop-i, After-gap_energy-sum, After-gap_energy}

-- What is paid up to tick e is no more than 65,535 a tick.
most : (c : Start) (e : ℕ)
    → energy_of false c.args.d (pattern (used_in c.args.u) c.args.front (e - c.args.front)) ≤ 65535 * (e - c.args.front)
most c e =
    let a = c.args in
    let n = e - a.front in
    let power : a.d.pw ≤ 65535 = omega (arith, c.well_formed.0) in
    let each = rw (length_pattern (used_in a.u) a.front n) at (energy_most a.d c.requires.0 false (pattern (used_in a.u) a.front n)) in
    omega (arith, mul-le-mul_right n power)

fits : (c : In-loop-i)
    → (c.loop-i.at ≤ begin c.args.u c.loop-i.i) × (begin c.args.u c.loop-i.i < end c.args.u c.loop-i.i) × (end c.args.u c.loop-i.i ≤ c.args.h)
fits c =
    let f = use_fits c.args.u c.args.h c.requires.1.0 c.args.front c.requires.1.1.0 c.loop-i.i c.loop-i-test.true in
    (omega (arith, c.loop-i.invariant.0), f.1, f.2)

-- One gap and one use more.
turn : (c : After-gap_energy-sum)
    → c.loop-i.sum + c.gap_energy-sum.result + c.args.d.pw * (end c.args.u c.loop-i.i - begin c.args.u c.loop-i.i)
    ≡ energy_of false c.args.d (pattern (used_in c.args.u) c.args.front (end c.args.u c.loop-i.i - c.args.front))
turn c =
    let e = energy_use c.args.u c.args.h c.requires.1.0 c.args.front c.requires.1.1.0 c.args.d c.loop-i.i c.loop-i.at c.loop-i-test.true c.loop-i.invariant.0 in
    omega (arith, e, c.loop-i.invariant.1, c.gap_energy-sum.ensures.0)

over : (c : After-loop-i) → let a = c.args in
    (c.loop-i.at ≡ after_from a.front a.u a.u.count) × (a.front ≤ c.loop-i.at) × (c.loop-i.at ≤ a.h)
over c =
    let a = c.args in
    let last : c.loop-i.i ≡ a.u.count = omega arith in
    let e : c.loop-i.at ≡ after_from a.front a.u a.u.count = c.loop-i.invariant.0 ∙ ap (after_from a.front a.u) last in
    (e, omega (arith, e, from_by a.u a.h c.requires.1.0 a.front c.requires.1.1.0 a.u.count (omega arith)), omega (arith, e, c.requires.1.1.1))

pub loop-i-init : goal.loop-i-init
loop-i-init c = (refl, rw sub_self (sym (energy_none c.args.d)))

pub overflow_sub-begin : goal.overflow_sub-begin
overflow_sub-begin c = omega (arith, fits (goal.at.overflow_sub-begin c).In-loop-i)

pub overflow_sub-sum : goal.overflow_sub-sum
overflow_sub-sum c = omega (arith, fits (goal.at.overflow_sub-sum c).In-loop-i)

pub overflow_cast-sum-in-loop-i : goal.overflow_cast-sum-in-loop-i
overflow_cast-sum-in-loop-i c = omega (arith, fits (goal.at.overflow_cast-sum-in-loop-i c).In-loop-i)

pub overflow_add-sum : goal.overflow_add-sum
overflow_add-sum c =
    let p = goal.at.overflow_add-sum c in
    omega (arith, turn p.After-gap_energy-sum, most p.Start (end c.args.u c.loop-i.i), fits p.In-loop-i)

pub overflow_mul-sum : goal.overflow_mul-sum
overflow_mul-sum c =
    let p = goal.at.overflow_mul-sum c in
    omega (arith, turn p.After-gap_energy-sum, most p.Start (end c.args.u c.loop-i.i), fits p.In-loop-i)

pub overflow_add-sum-in-loop-i : goal.overflow_add-sum-in-loop-i
overflow_add-sum-in-loop-i c =
    let p = goal.at.overflow_add-sum-in-loop-i c in
    omega (arith, turn p.After-gap_energy-sum, most p.Start (end c.args.u c.loop-i.i), fits p.In-loop-i)

pub loop-i-preserved : goal.loop-i-preserved
loop-i-preserved c = (from_next c.args.front c.args.u c.loop-i.i, turn (goal.at.loop-i-preserved c).After-gap_energy-sum)

pub overflow_sub-h : goal.overflow_sub-h
overflow_sub-h c = omega (arith, over (goal.at.overflow_sub-h c).After-loop-i)

pub overflow_add-h : goal.overflow_add-h
overflow_add-h c = omega (arith, over (goal.at.overflow_add-h c).After-loop-i)

pub overflow_add-result : goal.overflow_add-result
overflow_add-result c =
    let p = goal.at.overflow_add-result c in
    omega (arith, over p.After-loop-i, most p.Start c.loop-i.at, c.loop-i.invariant.1, c.gap_energy.ensures.1)

pub returns : goal.returns
returns c =
    let p = goal.at.returns c in
    let o = over p.After-loop-i in
    (rw (← o.0) (omega (arith, c.loop-i.invariant.1, c.gap_energy.ensures.0)), omega (arith, o, most p.Start c.loop-i.at, c.loop-i.invariant.1, c.gap_energy.ensures.1))
