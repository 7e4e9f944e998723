-- Calls one after the other, and how many vertices they enter.
use mathlib.Core.Path.{◌≡◌, refl, ap, ◌∙◌}
use Prim.Native.Nat.{ℕ, zero, suc, ◌+◌, ◌-◌, ◌*◌, ◌≤◌, ◌<◌}
use mathlib.Core.Logic.{⊎_elim}
use native.Mathlib.Nat.{mul-le-mul_left, mul-le-mul_right, eq-or-lt_of_le}
use native.Mathlib.Omega.{arith}
use Rattle.std.specs.Prelude.{Result, Ok, Err}
use Rattle.schedule.specs.declared.Recorder.{Recorder}
use Rattle.schedule.specs.Quantities.{jobs}
use Rattle.least.specs.declared.search.Stop.{Stop}
use Rattle.least.specs.Effort.{most_of}
use Rattle.least.specs.inside.Outcome.{Came}

-- ---- calls

-- More vertices may be entered than are.
pub came_more : {A : Type 0} (P : A → Type 0) (b e f n k : ℕ) → n ≤ k → (r : Result A Stop) → Came b e f n P r → Came b e f k P r
came_more P b e f n k l (Ok x) w = (omega (arith, w.0), w.1)
came_more P b e f n k l (Err s) w = omega arith

-- ---- how many

near : (j a x h : ℕ) → x ≤ h → j * (x * a) ≤ h * suc (j * a)
near j a x h l = let q = mul-le-mul_right (j * a) l in omega arith

far : (j a x y : ℕ) → 1 ≤ x → j * (x * a) + suc (y * suc (j * a)) ≤ (x + y) * suc (j * a)
far j a x y l = omega arith

module _ (R : Recorder) where
  pub most_less : (m t : ℕ) → most_of R m t ≤ most_of R m 0
  unfolding most_of
  most_less zero t = omega arith
  most_less (suc m) t =
      let l : R.horizon - t ≤ R.horizon - 0 = omega arith in
      let q = mul-le-mul_right (suc (jobs R * most_of R m 0)) l in
      omega arith

  -- Up to u, and from there on.
  pub most_near :
      (m t u : ℕ) → t ≤ u → u ≤ R.horizon → jobs R * ((u - t) * most_of R m 0) ≤ (R.horizon - t) * suc (jobs R * most_of R m 0)
  most_near m t u l b = near (jobs R) (most_of R m 0) (u - t) (R.horizon - t) (omega arith)

  pub most_far :
      (m t u : ℕ) → t < u → u ≤ R.horizon
      → jobs R * ((u - t) * most_of R m 0) + most_of R (suc m) u ≤ (R.horizon - t) * suc (jobs R * most_of R m 0)
  unfolding most_of
  most_far m t u l b =
      let e : R.horizon - t ≡ (u - t) + (R.horizon - u) = omega arith in
      rw e (far (jobs R) (most_of R m 0) (u - t) (R.horizon - u) (omega arith))

  pub most_own : (m t : ℕ) → most_of R (suc m) t ≡ suc ((R.horizon - t) * suc (jobs R * most_of R m 0))
  unfolding most_of
  most_own m t = refl

  -- More jobs, more vertices.
  one_more : (m : ℕ) → most_of R m 0 ≤ most_of R (suc m) 0
  unfolding most_of
  one_more zero = omega arith
  one_more (suc m) =
      let q = mul-le-mul_left (jobs R) (one_more m) in
      let l : suc (jobs R * most_of R m 0) ≤ suc (jobs R * most_of R (suc m) 0) = omega arith in
      let k = mul-le-mul_left (R.horizon - 0) l in
      omega arith

  pub most_grow : (m n : ℕ) → m ≤ n → most_of R m 0 ≤ most_of R n 0
  most_grow m zero l = let e : m ≡ 0 = omega arith in rw e (omega arith)
  most_grow m (suc n) l =
      ⊎_elim (λ (e : m ≡ suc n). rw e (omega arith)) (λ (q : m < suc n). omega (arith, most_grow m n (omega arith), one_more n)) (eq-or-lt_of_le l)

  -- All children of a vertex with suc m jobs unplaced are no more than all vertices.
  pub most_children : (m : ℕ) → suc m ≤ jobs R → jobs R * (R.horizon * most_of R m 0) ≤ most_of R (jobs R) 0
  most_children m l =
      let q = near (jobs R) (most_of R m 0) R.horizon R.horizon (omega arith) in
      let z : R.horizon - 0 ≡ R.horizon = omega arith in
      let w : most_of R (suc m) 0 ≡ suc (R.horizon * suc (jobs R * most_of R m 0)) = most_own m 0 ∙ ap (λ (n : ℕ). suc (n * suc (jobs R * most_of R m 0))) z in
      omega (arith, most_grow (suc m) (jobs R) l)
