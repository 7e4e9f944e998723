-- The largest value of a function over the numbers that a test picks, as a loop keeps it.
use mathlib.Core.Path.{◌≡◌, refl}
use mathlib.Core.Bool.{Bool, true, false}
use mathlib.Core.Logic.{◌⊎◌, inl, inr, ⊎_elim}
use Prim.Native.Nat.{ℕ, zero, suc, ◌<◌, max}
use native.Mathlib.Decide.{dec_lt}
use native.Mathlib.Nat.{eq-or-lt_of_le}
use native.Mathlib.Omega.{arith}
use Rattle.base.specs.Loops.{each, under}

abbrev pub larger : (ℕ → Bool) → (ℕ → ℕ) → ℕ → ℕ → ℕ
larger test f j b = under (test j) (max (f j)) b

-- One more is picked, or not.
pub under_from : (c : Bool) (x b t : ℕ) → t < under c (max x) b → (t < b) ⊎ ((c ≡ true) × (t < x))
under_from true x b t h =
    elim (dec_lt t x) [
      | yes q ↦ inr (refl, q)
      | no q ↦ inl (omega arith)
    ]
under_from false x b t h = inl h

under_keeps : (c : Bool) (x b t : ℕ) → t < b → t < under c (max x) b
under_keeps true x b t h = omega arith
under_keeps false x b t h = h

module _ (test : ℕ → Bool) (f : ℕ → ℕ) where
  -- Something is above t exactly if one of those picked is.
  pub above_one : (n t : ℕ) → t < each (larger test f) n 0 → (j : ℕ) × (j < n) × (test j ≡ true) × (t < f j)
  unfolding each
  above_one zero t h = absurd (omega arith)
  above_one (suc n) t h =
      ⊎_elim (λ q. let x = above_one n t q in (x.0, omega (arith, x.1), x.2, x.3)) (λ q. (n, omega arith, q.0, q.1))
      (under_from (test n) (f n) (each (larger test f) n 0) t h)

  pub one_above : (n t j : ℕ) → j < n → test j ≡ true → t < f j → t < each (larger test f) n 0
  unfolding each
  one_above zero t j l q h = absurd (omega arith)
  one_above (suc n) t j l q h =
      ⊎_elim (λ (e : j ≡ n). rw (← e, q) (omega arith)) (λ k. under_keeps (test n) (f n) (each (larger test f) n 0) t (one_above n t j k q h))
      (eq-or-lt_of_le {n = j} {m = n} (omega arith))
