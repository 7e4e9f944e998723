-- Outcomes of what was made, by what is refused and what is given.
use mathlib.Core.Path.{◌≡◌}
use mathlib.Core.List.{List}
use Prim.Native.Nat.{ℕ}
use Rattle.planner.specs.declared.Answer.{Answer}
use Rattle.planner.specs.Promises.{refusal}
use Rattle.sheet.specs.Promises.{Filled}
use Rattle.sheet.specs.Promises as P

pub filled_as : {f f' h n n' : ℕ} {m m' lent : List ℕ} {a : Answer} {after : List ℕ} → f ≡ f' → n ≡ n' → m ≡ m' → Filled f h n m lent a after
    → Filled f' h n' m' lent a after
filled_as p q r x = rw (← p, ← q, ← r) x

pub refused_as : {f g h n : ℕ} {m lent : List ℕ} → f ≡ g → (f ≡ 0 → ⊥) → Filled g h n m lent (refusal f) lent
refused_as e n = rw (← e) (P.Filled.refused n)
