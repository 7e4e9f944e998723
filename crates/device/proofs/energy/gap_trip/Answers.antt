use mathlib.Core.Path.{◌≡◌, refl, subst}
use Prim.Native.Nat.{ℕ, ◌≤◌}
use native.Mathlib.Nat.{mul-le-mul, mul-zero, sub-zero, zero-add}
use native.Mathlib.Omega.{arith}
use Rattle.device.specs.inside.Trips.{Chosen}
use Rattle.device.proofs.energy.gap_trip.Goals as goal

pub overflow_mul-best : goal.overflow_mul-best
overflow_mul-best c =
    let power : c.args.d.pw ≤ 65535 = omega (arith, c.well_formed.0) in
    let ticks : c.args.g ≤ 65535 = omega arith in
    record { fits = omega (arith, mul-le-mul power ticks) }

pub loop-n-init : goal.loop-n-init
loop-n-init c = record { level = refl; cost = simp (mul-zero, sub-zero, zero-add) }

pub better_trip-best-requires : goal.better_trip-best-requires
better_trip-best-requires c =
    (c.requires, (c.loop-n-test.true, c.loop-n.invariant))

pub returns : goal.returns
returns c =
    let all : c.loop-n.n ≡ c.args.d.levels = omega arith in
    subst (λ (n : ℕ). Chosen c.args.d n c.args.g c.loop-n.best) all c.loop-n.invariant
