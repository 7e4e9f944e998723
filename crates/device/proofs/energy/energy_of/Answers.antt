-- `device::energy_of` meets its contract: a round without a use sleeps throughout, and every other row is paid from its front on.
use mathlib.Core.Path.{◌≡◌, sym, ap, ◌∙◌}
use mathlib.Core.Bool.{true, false}
use Prim.Native.Nat.{ℕ, ◌*◌, ◌≤◌}
use native.Mathlib.Nat.{mul-le-mul_right}
use native.Mathlib.Omega.{arith}
use Rattle.device.specs.Row.{deep}
use Rattle.device.specs.inside.Uses.{after, after_from, idle}
use Rattle.device.proofs.Chosen.{deep_low}
use Rattle.device.proofs.Spacing.{front_by, last_front, energy_whole, energy_idle}
use Rattle.device.proofs.energy.energy_of.Goals as goal
use Rattle.device.proofs.energy.energy_of.Goals.{After-deep_power, After-front_of-front}

asleep : (c : After-deep_power) → let a = c.args in (c.deep_power.result ≡ deep a.d) × (c.deep_power.result * a.h ≤ 65535 * a.h)
asleep c =
    let e : c.deep_power.result ≡ deep c.args.d = c.deep_power.ensures in
    let low : c.deep_power.result ≤ 65535 = omega (arith, e, deep_low c.args.d c.requires.0 0 (omega arith), c.well_formed.1) in
    (e, mul-le-mul_right c.args.h low)

lasts : (c : After-front_of-front) → let a = c.args in
    (idle a.round a.u ≡ false) × (after_from c.front_of-front.result a.u a.u.count ≡ after a.u a.u.count)
lasts c =
    let a = c.args in
    let e : idle a.round a.u ≡ false = sym c.is_idle.ensures ∙ c.if-is_idle.false in
    (e, rw c.front_of-front.ensures (last_front a.u a.h c.requires.1 a.round e))

pub overflow_mul-result : goal.overflow_mul-result
overflow_mul-result c = omega (arith, asleep (goal.at.overflow_mul-result c).After-deep_power)

pub returns-then-is_idle : goal.returns-then-is_idle
returns-then-is_idle c =
    let a = c.args in
    let s = asleep (goal.at.returns-then-is_idle c).After-deep_power in
    let e : idle a.round a.u ≡ true = sym c.is_idle.ensures ∙ c.if-is_idle.true in
    (ap (λ (p : ℕ). p * a.h) s.0 ∙ sym (energy_idle a.u a.h c.requires.1 a.d a.round e), s.1)

pub energy_from-requires : goal.energy_from-requires
energy_from-requires c =
    let a = c.args in
    let l = lasts (goal.at.energy_from-requires c).After-front_of-front in
    (c.requires.0, (c.requires.1, (rw c.front_of-front.ensures (front_by a.u a.h c.requires.1 a.round), rw l.1 c.requires.1.within)))

pub returns : goal.returns
returns c =
    let a = c.args in
    let l = lasts (goal.at.returns c).After-front_of-front in
    (c.energy_from.ensures.0 ∙ rw (l.1, c.front_of-front.ensures) (sym (energy_whole a.u a.h c.requires.1 a.d a.round l.0)), c.energy_from.ensures.1)
