-- `device::deep_power` meets its contract.
use mathlib.Core.Path.{◌≡◌}
use Prim.Native.Nat.{ℕ, zero, suc, ◌-◌, ◌≤◌}
use native.Mathlib.Omega.{arith}
use lib.ListN.{get_or}
use Rattle.device.specs.declared.Device.{Device}
use Rattle.device.specs.Row.{power_at}
use Rattle.device.proofs.energy.deep_power.Goals as goal

-- The last level's power stands in the place before its number.
last-power : (d : Device) (n : ℕ) → 1 ≤ n → get_or d.powers (n - 1) 0 ≡ power_at d n
last-power d zero h = absurd (omega arith)
last-power d (suc n) h = let e : suc n - 1 ≡ n = omega arith in rw e

pub returns : goal.returns
returns c = last-power c.args.d c.args.d.levels c.requires.some_level
