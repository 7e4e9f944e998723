-- `device::last_end` meets its contract.
use mathlib.Core.Path.{◌≡◌, refl}
use Prim.Native.Nat.{ℕ, zero, suc, ◌-◌}
use native.Mathlib.Omega.{arith}
use lib.ListN.{get_or}
use Rattle.device.specs.declared.Uses.{Uses}
use Rattle.device.specs.inside.Uses.{after}
use Rattle.device.proofs.writer.last_end.Goals as goal

-- Where there is a use, the last one's end stands in the place before their number.
last_one : (u : Uses) (n : ℕ) → (n ≡ 0 → ⊥) → get_or u.ends (n - 1) 0 ≡ after u n
last_one u zero h = absurd (h refl)
last_one u (suc n) h = let e : suc n - 1 ≡ n = omega arith in rw e

pub returns-else-n-eq0 : goal.returns-else-n-eq0
returns-else-n-eq0 c = last_one c.args.u c.args.u.count c.if-n-eq0.false
