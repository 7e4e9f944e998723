-- No floor is more than eight devices at work all the time.
use mathlib.Core.Path.{◌≡◌, ap}
use mathlib.Core.Bool.{false}
use Prim.Native.Nat.{ℕ, ◌+◌, ◌-◌, ◌*◌, ◌≤◌, ◌<◌}
use native.Mathlib.Nat.{le_refl, mul-le-mul, mul-le-mul_right}
use native.Mathlib.Omega.{arith}
use borrow.Author.Tests.{ltb-false}
use Rattle.base.specs.Sums.{total}
use Rattle.base.proofs.Additions.{sum_most}
use Rattle.device.specs.Row.{deep, energy_of, pattern}
use Rattle.device.proofs.Chosen.{deep_low}
use Rattle.device.proofs.Least.{energy_most}
use Rattle.device.proofs.Pattern.{length_pattern}
use Rattle.schedule.specs.declared.Recorder.{Recorder}
use Rattle.schedule.specs.Quantities.{device, run, Valid}
use Rattle.schedule.specs.Listing.{used}
use Rattle.schedule.specs.Visiting.{Vertex, cut_a, late, last_end, since, ticks, device_floor, floor}
use Rattle.schedule.proofs.Gaps.{last_by}
use Rattle.schedule.proofs.Rounds.{since_by}
use Rattle.schedule.proofs.Tree.{Reached}
use Rattle.keys.proofs.Rises.{ticks_by, or_none}

pub product_fits : (a b : ℕ) → a < 65536 → b ≤ 4096 → a * b ≤ 268431360
product_fits a b h k = let f : a * b ≤ 65535 * b = mul-le-mul_right b (omega arith) in omega arith

-- At work for a ticks and asleep for b.
pub both_fit : (w p a b : ℕ) → w < 65536 → p < 65536 → a + b ≤ 4096 → w * a + p * b ≤ 268431360
both_fit w p a b h k l =
    let f : w * a ≤ 65535 * a = mul-le-mul_right a (omega arith) in
    let g : p * b ≤ 65535 * b = mul-le-mul_right b (omega arith) in
    omega arith

-- A device that is asleep for a ticks, at work for at most u of them up to its last use, for x more, and asleep for the rest.
whole : (p w a u x z e h : ℕ) → p ≤ w → e ≤ w * u → a + u + (x + z) ≤ h → p * a + e + (w * x + p * z) ≤ w * h
whole p w a u x z e h l k m =
    let f : p * a ≤ w * a = mul-le-mul_right a l in
    let g : p * z ≤ w * z = mul-le-mul_right z l in
    let q : w * (a + u + (x + z)) ≤ w * h = mul-le-mul (le_refl w) m in
    omega arith

module _ (R : Recorder) (valid : Valid R) (narrow : (k : ℕ) → k < R.devices.count → (device R k).pw ≤ 65535) where
  pub uncut_room : (v : Vertex) → cut_a R v ≡ false → v.time + total (run R) v.unplaced ≤ R.horizon
  unfolding cut_a
  uncut_room v q = ltb-false R.horizon (v.time + total (run R) v.unplaced) (or_none (late R v.time v.unplaced) _ q).1

  pub floor_most : (m : ℕ) (v : Vertex) → Reached R m v → cut_a R v ≡ false → floor R v ≤ 2147450880
  unfolding floor device_floor
  floor_most m v h q =
      omega (arith, valid.few_devices, sum_most 268431360 R.devices.count (λ k. device_floor R k v) one)
    where
      one : (k : ℕ) → k < R.devices.count → device_floor R k v ≤ 268431360
      one k b =
          let a = since R k v.placed in
          let e = last_end R k 0 v.placed in
          let x = total (ticks R k) v.unplaced in
          let first = since_by R k v.placed v.time h.in_turn in
          let last = last_by R k v.placed 0 0 v.time h.in_turn (omega arith) in
          let few = ticks_by R k v.unplaced in
          let all : device_floor R k v ≤ (device R k).pw * R.horizon
          = whole (deep (device R k)) (device R k).pw a (e - a) x (R.horizon - e - x) (energy_of false (device R k) (pattern (used R k v.placed) a (e - a))) R.horizon
          (deep_low (device R k) (valid.sound k b) 0 (omega arith))
          (omega (arith, energy_most (device R k) (valid.sound k b) false (pattern (used R k v.placed) a (e - a)), ap (λ (n : ℕ). (device R k).pw * n) (length_pattern (used R k v.placed) a (e - a))))
          (omega (arith, first, last, few, uncut_room v q)) in
          omega (arith, all, mul-le-mul (narrow k b) valid.few_ticks)
