-- `device::better_trip` meets its contract. No power is past 65,535, and where the level has room its ticks are those of the gap, so that its cost fits.
use mathlib.Core.Path.{◌≡◌, refl, ap, sym, ◌∙◌}
use Prim.Native.Nat.{ℕ, suc, ◌+◌, ◌-◌, ◌*◌, ◌^◌, ◌≤◌, ◌<◌}
use native.Mathlib.Nat.{mul-le-mul, mul-le-mul_right}
use native.Mathlib.Numerals.{add-one}
use native.Mathlib.Omega.{arith}
use lib.ListN.{get_or}
use Rattle.device.specs.declared.Device.{Device}
use Rattle.device.specs.declared.energy.Trip.{Trip}
use Rattle.device.specs.Row.{Sound, depth, trip_cost}
use Rattle.device.specs.inside.Trips.{Chosen}
use Rattle.device.proofs.Chosen.{depth_next, depth_short, depth_dear, power_falls}
use Rattle.device.proofs.energy.better_trip.Goals as goal

-- A way down or up: at most 255 ticks for each of four levels.
way : (t n : ℕ) → t < 256 → n < 4 → t * (n + 1) ≤ 1020
way t n ht hn =
    let few : t ≤ 255 = omega arith in
    let levels : n + 1 ≤ 4 = omega arith in
    omega (arith, mul-le-mul few levels)

-- A trip of x ticks down and y up, in a gap of g.
cost-fits : (pd pu p x y g : ℕ) → pd < 65536 → pu < 65536 → p < 65536 → x + y ≤ g → g < 65536 → pd * x + pu * y + p * (g - (x + y)) < 2 ^ 32
cost-fits pd pu p x y g hd hu hp h hg =
    let a : pd * x ≤ 65535 * x = mul-le-mul_right x (omega arith) in
    let b : pu * y ≤ 65535 * y = mul-le-mul_right y (omega arith) in
    let c : p * (g - (x + y)) ≤ 65535 * (g - (x + y)) = mul-le-mul_right (g - (x + y)) (omega arith) in
    omega arith

-- The moves to the next level, and the whole trip.
moving : (d : Device) (n g : ℕ) → d.pd < 65536 → d.pu < 65536 → d.shut * (n + 1) + d.wake * (n + 1) ≤ g → g < 65536
    → d.pd * (d.shut * (n + 1)) + d.pu * (d.wake * (n + 1)) < 2 ^ 32
moving d n g hd hu h hg = omega (arith, cost-fits d.pd d.pu 0 (d.shut * (n + 1)) (d.wake * (n + 1)) g hd hu (omega arith) h hg)

priced : (d : Device) → Sound d → (n g : ℕ) → n < d.levels → d.pw < 65536 → d.pd < 65536 → d.pu < 65536 → d.shut * (n + 1) + d.wake * (n + 1) ≤ g → g < 65536
    → d.pd * (d.shut * (n + 1)) + d.pu * (d.wake * (n + 1)) + get_or d.powers n 0 * (g - (d.shut * (n + 1) + d.wake * (n + 1))) < 2 ^ 32
priced d ok n g l hw hd hu h hg =
    cost-fits d.pd d.pu (get_or d.powers n 0) (d.shut * (n + 1)) (d.wake * (n + 1)) g hd hu
    (omega (arith, power_falls d ok 0 (suc n) (omega arith) (omega arith), hw)) h hg

-- The best so far stays, or the next level takes its place.
stays : {d : Device} {n g : ℕ} {t : Trip} → depth d (suc n) g ≡ depth d n g → Chosen d n g t → Chosen d (n + 1) g t
stays {d} {n} {g} e h = rw add-one (record { level = h.level ∙ sym e; cost = h.cost ∙ ap (λ (m : ℕ). trip_cost d m g) (sym e) })

deeper : {d : Device} {n g : ℕ} {t : Trip} → depth d (suc n) g ≡ suc n → t.level ≡ n + 1 → t.cost ≡ trip_cost d (suc n) g → Chosen d (n + 1) g t
deeper {d} {n} {g} e l h = rw add-one (record { level = l ∙ add-one n ∙ sym e; cost = h ∙ ap (λ (m : ℕ). trip_cost d m g) (sym e) })

pub overflow_mul-down : goal.overflow_mul-down
overflow_mul-down c = record { fits = omega (arith, way c.args.d.shut c.args.n (omega (arith, c.well_formed.0)) (omega (arith, c.requires.0.few_levels))) }

pub overflow_mul-up : goal.overflow_mul-up
overflow_mul-up c = record { fits = omega (arith, way c.args.d.wake c.args.n (omega (arith, c.well_formed.0)) (omega (arith, c.requires.0.few_levels))) }

pub overflow_add-down : goal.overflow_add-down
overflow_add-down c = record { fits = omega (arith, way c.args.d.shut c.args.n (omega (arith, c.well_formed.0)) (omega (arith, c.requires.0.few_levels)), way c.args.d.wake c.args.n (omega (arith, c.well_formed.0)) (omega (arith, c.requires.0.few_levels))) }

pub returns-then-gap-down : goal.returns-then-gap-down
returns-then-gap-down c =
    let a = c.args in
    stays (depth_short a.d a.n a.g (rw add-one at c.if-gap-down.true)) c.requires.1.1

pub overflow_mul-cost : goal.overflow_mul-cost
overflow_mul-cost c =
    let a = c.args in
    record { fits = omega (arith, moving a.d a.n a.g (omega (arith, c.well_formed.0)) (omega (arith, c.well_formed.0)) (omega arith) (omega arith)) }

pub overflow_mul-cost-2 : goal.overflow_mul-cost-2
overflow_mul-cost-2 c =
    let a = c.args in
    record { fits = omega (arith, moving a.d a.n a.g (omega (arith, c.well_formed.0)) (omega (arith, c.well_formed.0)) (omega arith) (omega arith)) }

pub overflow_add-cost : goal.overflow_add-cost
overflow_add-cost c =
    let a = c.args in
    record { fits = omega (arith, moving a.d a.n a.g (omega (arith, c.well_formed.0)) (omega (arith, c.well_formed.0)) (omega arith) (omega arith)) }

pub overflow_mul-cost-3 : goal.overflow_mul-cost-3
overflow_mul-cost-3 c =
    let a = c.args in
    let priced = priced a.d c.requires.0 a.n a.g c.requires.1.0 (omega (arith, c.well_formed.0)) (omega (arith, c.well_formed.0)) (omega (arith, c.well_formed.0)) (omega (arith, c.if-gap-down.false)) (omega arith) in
    record { fits = omega (arith, priced) }

pub overflow_add-cost-2 : goal.overflow_add-cost-2
overflow_add-cost-2 c =
    let a = c.args in
    let priced = priced a.d c.requires.0 a.n a.g c.requires.1.0 (omega (arith, c.well_formed.0)) (omega (arith, c.well_formed.0)) (omega (arith, c.well_formed.0)) (omega (arith, c.if-gap-down.false)) (omega arith) in
    record { fits = priced }

pub returns-then-cost-best : goal.returns-then-cost-best
returns-then-cost-best c =
    let a = c.args in
    let less : trip_cost a.d (suc a.n) a.g < trip_cost a.d (depth a.d a.n a.g) a.g = rw (c.requires.1.1.cost, add-one) at c.if-cost-best.true in
    deeper (depth_next a.d a.n a.g (rw add-one at c.if-gap-down.false) less) refl (rw add-one)

pub returns-else-cost-best : goal.returns-else-cost-best
returns-else-cost-best c =
    let a = c.args in
    stays (depth_dear a.d a.n a.g (rw (c.requires.1.1.cost, add-one) at c.if-cost-best.false)) c.requires.1.1
