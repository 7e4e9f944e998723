-- The devices that a job uses, one after the other: how many there are, which they are, and sums over them.
use mathlib.Core.Path.{◌≡◌, refl, sym, ap, ◌∙◌}
use mathlib.Core.Bool.{Bool, true, false, cond}
use mathlib.Core.List.{List}
use mathlib.Core.Logic.{⊎_elim}
use Prim.Native.Nat.{ℕ, zero, suc, ◌+◌, ◌≤◌, ◌<◌}
use native.Mathlib.Nat.{eq-or-lt_of_le}
use native.Mathlib.Numerals.{add-one}
use native.Mathlib.Omega.{arith}
use Rattle.base.specs.Sums.{sum}
use Rattle.schedule.specs.declared.Recorder.{Recorder}
use Rattle.schedule.specs.Quantities.{uses}
use Rattle.extras.specs.inside.Jobs.{used_at, used_below, OfJob}

module _ (R : Recorder) (j : ℕ) where
  pub used_none : 0 ≡ used_below R j 0
  unfolding used_below
  used_none = refl

  pub used_next : (n : ℕ) → used_below R j n + cond (uses R n j) 1 0 ≡ used_below R j (n + 1)
  unfolding used_below
  used_next n = rw (add-one n)

  used_with : (n : ℕ) → uses R n j ≡ true → used_below R j (suc n) ≡ used_below R j n + 1
  unfolding used_below
  used_with n u = rw u

  used_without : (n : ℕ) → uses R n j ≡ false → used_below R j (suc n) ≡ used_below R j n
  unfolding used_below
  used_without n u = rw u (omega arith)

  pub used_most : (n : ℕ) → used_below R j n ≤ n
  unfolding used_below
  used_most zero = omega arith
  used_most (suc n) = go (uses R n j) refl (used_most n)
    where
      go : (b : Bool) → uses R n j ≡ b → used_below R j n ≤ n → used_below R j (suc n) ≤ suc n
      go true u h = omega (arith, used_with n u)
      go false u h = omega (arith, used_without n u)

  -- Those before a device are fewer than those before a later one, if it is used.
  pub used_before_lem : (n k : ℕ) → k < n → uses R k j ≡ true → used_below R j k < used_below R j n
  used_before_lem zero k l u = absurd (omega arith)
  used_before_lem (suc n) k l u =
      ⊎_elim (λ (e : k ≡ n). rw e (omega (arith, used_with n (rw e at u)))) (λ q. go (uses R n j) refl (used_before_lem n k q u))
      (eq-or-lt_of_le {n = k} {m = n} (omega arith))
    where
      go : (b : Bool) → uses R n j ≡ b → used_below R j k < used_below R j n → used_below R j k < used_below R j (suc n)
      go true w h = omega (arith, used_with n w)
      go false w h = omega (arith, used_without n w)

  -- There is one before which there are i.
  pub used_found : (n i : ℕ) → i < used_below R j n → (k : ℕ) × (k < n) × (uses R k j ≡ true) × (used_below R j k ≡ i)
  unfolding used_below
  used_found zero i l = absurd (omega arith)
  used_found (suc n) i l = go (uses R n j) refl (λ q. used_found n i q)
    where
      on : (k : ℕ) × (k < n) × (uses R k j ≡ true) × (used_below R j k ≡ i) → (k : ℕ) × (k < suc n) × (uses R k j ≡ true) × (used_below R j k ≡ i)
      on w = (w.0, omega (arith, w.1), w.2, w.3)

      go : (b : Bool) → uses R n j ≡ b → (i < used_below R j n → (k : ℕ) × (k < n) × (uses R k j ≡ true) × (used_below R j k ≡ i))
          → (k : ℕ) × (k < suc n) × (uses R k j ≡ true) × (used_below R j k ≡ i)
      go true u h =
          ⊎_elim (λ (e : i ≡ used_below R j n). (n, omega arith, u, sym e)) (λ q. on (h q))
          (eq-or-lt_of_le {n = i} {m = used_below R j n} (omega (arith, used_with n u)))
      go false u h = on (h (omega (arith, used_without n u)))

-- The sum over the first i of them, whichever devices that are not used follow.
abbrev pub SumTo : Recorder → ℕ → (ℕ → ℕ) → ℕ → ℕ → Type 0
SumTo R j f i x = (n : ℕ) → n ≤ R.devices.count → used_below R j n ≡ i → x ≡ sum n f

module _ {R : Recorder} {j : ℕ} {l : List ℕ} (w : OfJob R j l) where
  -- What stands in the list is a device that is used.
  pub listed : (i : ℕ) → i < used_below R j R.devices.count
      → (used_at l j i < R.devices.count) × (uses R (used_at l j i) j ≡ true) × (used_below R j (used_at l j i) ≡ i)
  listed i b =
      let f = used_found R j R.devices.count i b in
      let is : used_at l j i ≡ f.0 = ap (used_at l j) (sym f.3) ∙ w.at f.0 f.1 f.2 in
      rw is (f.1, f.2, f.3)

  module _ (f : ℕ → ℕ) (idle : (k : ℕ) → uses R k j ≡ false → f k ≡ 0) where
    pub sum_to_none : SumTo R j f 0 0
    sum_to_none zero b e = refl
    sum_to_none (suc n) b e = go (uses R n j) refl (λ q. sum_to_none n (omega arith) q)
      where
        go : (u : Bool) → uses R n j ≡ u → (used_below R j n ≡ 0 → 0 ≡ sum n f) → 0 ≡ sum n f + f n
        go true u h = absurd (omega (arith, used_with R j n u))
        go false u h = omega (arith, idle n u, h (omega (arith, used_without R j n u)))

    pub sum_to_next : (i x : ℕ) → SumTo R j f i x → SumTo R j f (i + 1) (x + f (used_at l j i))
    unfolding used_below
    sum_to_next i x h zero b e = absurd (omega arith)
    sum_to_next i x h (suc n) b e = go (uses R n j) refl (λ q. sum_to_next i x h n (omega arith) q)
      where
        go : (u : Bool) → uses R n j ≡ u → (used_below R j n ≡ i + 1 → x + f (used_at l j i) ≡ sum n f) → x + f (used_at l j i) ≡ sum n f + f n
        go true u t =
            let before : used_below R j n ≡ i = omega (arith, used_with R j n u) in
            let is : used_at l j i ≡ n = ap (used_at l j) (sym before) ∙ w.at n (omega arith) u in
            rw is (omega (arith, h n (omega arith) before))
        go false u t = omega (arith, idle n u, t (omega (arith, used_without R j n u)))
