-- `planner::recorders::sizes_of` meets its contract.
use mathlib.Core.List.{List, [], ◌∷◌}
use mathlib.Core.Path.{◌≡◌, refl}
use Prim.Native.Nat.{ℕ, ◌≤◌}
use native.Mathlib.Omega.{arith}
use lib.ListN.{length, set, drop}
use lib.Seq.{lt-length-set}
use Rattle.planner.specs.Promises.{stops, gives}
use Rattle.planner.proofs.Refusing.{unless_enough}
use Rattle.planner.proofs.recorders.sizes_of.Goals as goal

-- Three bytes at the front of a list.
three : (l : List ℕ) (a b c : ℕ) → 3 ≤ length l → set (set (set l 0 a) 1 b) 2 c ≡ a ∷ b ∷ c ∷ drop 3 l
three [] a b c h = absurd (omega arith)
three (x ∷ []) a b c h = absurd (omega arith)
three (x ∷ y ∷ []) a b c h = absurd (omega arith)
three (x ∷ y ∷ z ∷ l) a b c h = refl

pub returns-then-out-lt3 : goal.returns-then-out-lt3
returns-then-out-lt3 c = rw c.from.ensures (stops c.if-out-lt3.true)

pub overflow_cast-out : goal.overflow_cast-out
overflow_cast-out c = omega (arith, c.requires.0)

pub bounds-out-1 : goal.bounds-out-1
bounds-out-1 c = let a = c.args in lt-length-set a.out.now 0 a.r.devices.count (omega (arith, c.if-out-lt3.false))

pub returns : goal.returns
returns c =
    let l = c.args.out.now in
    rw (three l _ _ _ c.if-out-lt3.false) (unless_enough c.if-out-lt3.false gives)
