-- A test of all members of a list, or of one, by their places.
use mathlib.Core.Path.{◌≡◌, refl}
use mathlib.Core.Bool.{Bool, true, false}
use mathlib.Core.List.{List, [], ◌∷◌}
use Prim.Native.Nat.{ℕ, zero, suc, ◌<◌}
use native.Mathlib.Omega.{arith}
use lib.ListN.{length, get_or}
use Rattle.base.specs.Lists.{all, one}
use Rattle.base.proofs.Cases.{or_right, and_right}

module _ {A : Type 0} (t : A → Bool) (z : A) where
  pub all_holds : (l : List A) → ((i : ℕ) → i < length l → t (get_or l i z) ≡ true) → all t l ≡ true
  all_holds [] h = refl
  all_holds (x ∷ l) h = rw (h 0 (omega arith)) (all_holds l (λ i k. h (suc i) (omega arith)))

  pub all_fails : (l : List A) (i : ℕ) → i < length l → t (get_or l i z) ≡ false → all t l ≡ false
  all_fails [] i h e = absurd (omega arith)
  all_fails (x ∷ l) zero h e = rw e
  all_fails (x ∷ l) (suc i) h e = and_right (t x) (all_fails l i (omega arith) e)

  pub one_holds : (l : List A) (i : ℕ) → i < length l → t (get_or l i z) ≡ true → one t l ≡ true
  one_holds [] i h e = absurd (omega arith)
  one_holds (x ∷ l) zero h e = rw e
  one_holds (x ∷ l) (suc i) h e = or_right (t x) (one_holds l i (omega arith) e)

  pub one_fails : (l : List A) → ((i : ℕ) → i < length l → t (get_or l i z) ≡ false) → one t l ≡ false
  one_fails [] h = refl
  one_fails (x ∷ l) h = rw (h 0 (omega arith)) (one_fails l (λ i k. h (suc i) (omega arith)))
