-- How large energies become, so that 32 bits hold every sum over the devices (rule 7): 65,535 × 4,096 = 268,431,360 for one device, and eight times that,
-- 2,147,450,880, for a plan.
use mathlib.Core.Path.{ap}
use mathlib.Core.List.{List}
use Prim.Native.Nat.{ℕ, ◌+◌, ◌*◌, ◌≤◌, ◌<◌}
use native.Mathlib.Nat.{mul-le-mul}
use native.Mathlib.Omega.{arith}
use Rattle.base.specs.Sums.{sum}
use Rattle.base.proofs.Additions.{sum_most}
use Rattle.device.specs.Row.{energy_of}
use Rattle.device.proofs.Least.{energy_most}
use Rattle.device.proofs.Pattern.{length_pattern}
use Rattle.schedule.specs.declared.Recorder.{Recorder}
use Rattle.schedule.specs.Quantities.{device, Valid}
use Rattle.schedule.specs.Listing.{used, places, uses_of}
use Rattle.schedule.specs.Visiting.{plan_energy}

-- One device over a whole horizon h.
pub device_most_lem : (e h : ℕ) → e ≤ 65535 * h → h ≤ 4096 → e ≤ 268431360
device_most_lem e h l few = omega arith

-- A sum over k devices, and one device more: what a loop that adds over the devices keeps, and that its sum fits.
pub devices_more : (made k e : ℕ) → made ≤ 268431360 * k → k < 8 → e ≤ 268431360 → (made + e ≤ 268431360 * (k + 1)) × (made + e ≤ 2147450880)
devices_more made k e l few one = omega arith

-- A sum over any number of them.
pub devices_most : (n : ℕ) (f : ℕ → ℕ) → ((k : ℕ) → k < n → f k ≤ 268431360) → sum n f ≤ 268431360 * n
devices_most = sum_most 268431360

-- The energy of a plan, where each power fits its two bytes.
pub plan_energy_most :
    (R : Recorder) → Valid R → ((k : ℕ) → k < R.devices.count → (device R k).pw ≤ 65535) → (s : List ℕ) → plan_energy R s ≤ 2147450880
unfolding plan_energy
plan_energy_most R valid fits s =
    omega (
      arith,
      valid.few_devices,
      sum_most 268431360 R.devices.count (λ k. energy_of R.round (device R k) (uses_of R s k)) (λ k l. one k l),
    )
  where
    one : (k : ℕ) → k < R.devices.count → energy_of R.round (device R k) (uses_of R s k) ≤ 268431360
    one k l =
        omega (
          arith,
          energy_most (device R k) (valid.sound k l) R.round (uses_of R s k),
          mul-le-mul (fits k l) valid.few_ticks,
          ap (λ (n : ℕ). (device R k).pw * n) (length_pattern (used R k (places R s)) 0 R.horizon),
        )
