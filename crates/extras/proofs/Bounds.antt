-- How large an extra can be.
use Prim.Native.Nat.{ℕ, ◌≤◌}
use native.Mathlib.Nat.{mul-le-mul_right}
use native.Mathlib.Omega.{arith}
use Rattle.device.specs.declared.Device.{Device}
use Rattle.device.proofs.Least.{gap_most}
use Rattle.keys.specs.inside.Keys.{extra}

-- No gap of up to 4,096 ticks costs more than work at the largest power.
pub extra_most : (d : Device) → d.pw ≤ 65535 → (g : ℕ) → g ≤ 4096 → extra d g ≤ 268431360
unfolding extra
extra_most d few g short = omega (arith, gap_most d g, mul-le-mul_right g few)
