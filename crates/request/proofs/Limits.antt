-- What the code works out no further than a limit: a test of it is the test of the whole. The horizon is known up to 4,097 and the number of jobs up to 17.
use mathlib.Core.Path.{◌≡◌, ◌∙◌, ap}
use mathlib.Core.Bool.{cond}
use mathlib.Core.List.{List}
use Prim.Native.Nat.{ℕ, ◌<◌, ◌≤◌, min}
use native.Mathlib.Omega.{arith}
use lib.Dec.{ltb, eqb}
use Rattle.base.proofs.Paths.{lt_then, lt_else, eq_then, eq_else}
use Rattle.request.specs.Format.{job_records}

module _ {A : Type 0} {r : A} (h whole : ℕ) (x y : A) where
  pub none_then : h ≡ min whole 4097 → h ≡ 0 → r ≡ x → r ≡ cond (eqb whole 0) x y
  none_then e l = eq_then whole 0 x y (omega arith)

  pub none_else : h ≡ min whole 4097 → (h ≡ 0 → ⊥) → r ≡ y → r ≡ cond (eqb whole 0) x y
  none_else e l = eq_else whole 0 x y (λ z. l (omega arith))

  pub over_then : h ≡ min whole 4097 → 4096 < h → r ≡ x → r ≡ cond (ltb 4096 whole) x y
  over_then e l = lt_then 4096 whole x y (omega arith)

  pub over_else : h ≡ min whole 4097 → h ≤ 4096 → r ≡ y → r ≡ cond (ltb 4096 whole) x y
  over_else e l = lt_else 4096 whole x y (omega arith)

  pub many_then : min h 17 ≡ min whole 17 → 16 < h → r ≡ x → r ≡ cond (ltb 16 whole) x y
  many_then e l = lt_then 16 whole x y (omega arith)

  pub many_else : min h 17 ≡ min whole 17 → h ≤ 16 → r ≡ y → r ≡ cond (ltb 16 whole) x y
  many_else e l = lt_else 16 whole x y (omega arith)

-- A horizon that is not above the limit is the whole.
pub within :
    {r : ℕ} (s : List ℕ) (n tasks from at h whole : ℕ) → h ≡ min whole 4097 → h ≤ 4096 → r ≡ job_records s n tasks from at h → r ≡ job_records s n tasks from at whole
within s n tasks from at h whole e l k =
    let same : h ≡ whole = omega arith in
    k ∙ ap (job_records s n tasks from at) same

pub ruleset limits = (none_then, none_else, over_then, over_else, many_then, many_else, within)
