-- The two smallest last starts of a set, job by job; and with them cut A of a child is one comparison.
use mathlib.Core.Path.{◌≡◌, refl, sym, ◌∙◌, subst}
use mathlib.Core.Bool.{Bool, true, false, ◌||◌}
use mathlib.Core.List.{List, [], ◌∷◌}
use mathlib.Core.Logic.{◌⊎◌, inl, inr, ⊎_elim}
use Prim.Native.Nat.{ℕ, suc, ◌+◌, ◌-◌, ◌/◌, ◌%◌, ◌^◌, ◌≤◌, ◌<◌, min}
use native.Mathlib.Decide.{ℕ_discrete}
use native.Mathlib.Nat.{eq-or-lt_of_le}
use native.Mathlib.Omega.{arith}
use lib.Dec.{ltb, eqb}
use borrow.Author.Tests.{ltb-true, ltb-false, lt-ltb, le-ltb, eqb-true, eqb-false, eq-eqb, ne_eqb}
use Rattle.base.specs.Lists.{In, remove}
use Rattle.base.specs.Sums.{total}
use Rattle.base.proofs.Cases.{cond_cases}
use Rattle.base.proofs.Numbers.{remove_in, in_remove, not_in_remove}
use Rattle.schedule.specs.declared.Recorder.{Recorder}
use Rattle.schedule.specs.Quantities.{jobs, deadline, run, Valid}
use Rattle.schedule.specs.Visiting.{Vertex, child, earliest, late, cut_a}
use Rattle.schedule.proofs.Tree.{Reached}
use Rattle.latest.specs.inside.Sets.{has}
use Rattle.extras.specs.inside.Jobs.{last_of}
use Rattle.vertex.specs.declared.dues.Dues.{Dues}
use Rattle.vertex.specs.inside.Sums.{due_with, due_for, limit_for}
use Rattle.vertex.specs.inside.Lasts.{TwoLeast}

-- ---- the bit of a job

pub bit_is : (a j n : ℕ) → n ≡ a / 2 ^ j → n % 2 ≡ 1 → has a j ≡ true
bit_is a j n e q = eq-eqb (a / 2 ^ j % 2) 1 (subst (λ (k : ℕ). k % 2 ≡ 1) e q)

pub bit_not : (a j n : ℕ) → n ≡ a / 2 ^ j → (n % 2 ≡ 1 → ⊥) → has a j ≡ false
bit_not a j n e q = ne_eqb (a / 2 ^ j % 2) 1 (subst (λ (k : ℕ). k % 2 ≡ 1 → ⊥) e q)

-- ---- the two smallest

module _ (R : Recorder) (m : ℕ) where
  pub two_least_none : TwoLeast R m 0 (record { at = record { 0 = 0 }; first = 65536; second = 65536 })
  two_least_none =
      record {
        first_low = λ i b h. absurd (omega arith);
        second_low = λ i b h ne. absurd (omega arith);
        first_is = inl refl;
        second_is = inl refl;
      }

  module _ (n : ℕ) (d : Dues) (t : TwoLeast R m n d) where
    pub two_least_passed : has m n ≡ false → TwoLeast R m (n + 1) d
    two_least_passed q =
        record {
          first_low = λ i b h. t.first_low i (before i b h) h;
          second_low = λ i b h ne. t.second_low i (before i b h) h ne;
          first_is = ⊎_elim inl (λ w. inr (omega (arith, w.0), w.1, w.2)) t.first_is;
          second_is = ⊎_elim inl (λ w. inr (w.0, omega (arith, w.1), w.2, w.3, w.4)) t.second_is;
        }
      where
        before : (i : ℕ) → i < n + 1 → has m i ≡ true → i < n
        before i b h =
            ⊎_elim (λ (e : i ≡ n). let z : true ≡ false = sym h ∙ subst (λ (x : ℕ). has m x ≡ false) (sym e) q in let y : ◌≡◌ {A = ℕ} 0 1 = cc in absurd (omega arith))
            (λ (l : i < n). l) (eq-or-lt_of_le {n = i} {m = n} (omega arith))

    module _ (one : has m n ≡ true) (few : last_of R n < 65536) where
      -- It is less than both.
      smaller : last_of R n < d.first → TwoLeast R m (n + 1) (record { at = record { 0 = n }; first = last_of R n; second = d.first })
      smaller less =
          record {
            first_low = λ i b h. elim (ℕ_discrete i n) [
              | yes e ↦ rw e (omega arith)
              | no ne ↦ omega (arith, t.first_low i (omega (arith, b, ne)) h)
            ];
            second_low = λ i b h ne. t.first_low i (omega (arith, b, ne)) h;
            first_is = inr (omega arith, one, refl);
            second_is = ⊎_elim inl (λ w. inr (d.at.0, omega (arith, w.0), w.1, (λ (e : d.at.0 ≡ n). omega (arith, e, w.0)), w.2)) t.first_is;
          }

      -- It is not less than the first.
      at_before : d.first ≤ last_of R n → d.at.0 < n
      at_before more = ⊎_elim (λ (e : d.first ≡ 65536). absurd (omega (arith, few, more, e))) (λ w. w.0) t.first_is

      larger : d.first ≤ last_of R n → TwoLeast R m (n + 1) (record { at = d.at; first = d.first; second = min d.second (last_of R n) })
      larger more =
          record {
            first_low = λ i b h. elim (ℕ_discrete i n) [
              | yes e ↦ rw e more
              | no ne ↦ t.first_low i (omega (arith, b, ne)) h
            ];
            second_low = λ i b h w. elim (ℕ_discrete i n) [
              | yes e ↦ rw e (omega arith)
              | no ne ↦ omega (arith, t.second_low i (omega (arith, b, ne)) h w)
            ];
            first_is = ⊎_elim inl (λ w. inr (omega (arith, w.0), w.1, w.2)) t.first_is;
            second_is = go (ltb (last_of R n) d.second) refl;
          }
        where
          go : (b : Bool) → ltb (last_of R n) d.second ≡ b
              → (min d.second (last_of R n) ≡ 65536)
              ⊎ ((i : ℕ) × (i < n + 1) × (has m i ≡ true) × (i ≡ d.at.0 → ⊥) × (min d.second (last_of R n) ≡ last_of R i))
          go true q =
              let l = ltb-true (last_of R n) d.second q in
              inr (n, omega arith, one, (λ (e : n ≡ d.at.0). omega (arith, e, at_before more)), omega (arith, l))
          go false q =
              let l = ltb-false (last_of R n) d.second q in
              let is : min d.second (last_of R n) ≡ d.second = omega (arith, l) in
              rw is (⊎_elim inl (λ w. inr (w.0, omega (arith, w.1), w.2, w.3, w.4)) t.second_is)

      pub two_least_with : (x : ℕ) → x ≡ last_of R n → TwoLeast R m (n + 1) (due_with d (record { 0 = n }) x)
      unfolding due_with
      two_least_with x e =
          rw e
          (cond_cases (TwoLeast R m (n + 1)) (ltb (last_of R n) d.first)
          (λ q. smaller (ltb-true (last_of R n) d.first q)) (λ q. larger (ltb-false (last_of R n) d.first q)))

-- ---- the smallest without one job

-- y is the smallest last start of the jobs of the list u; 65536 where there is none.
record Least (R : Recorder) (u : List ℕ) (y : ℕ) : Type 0 where
  pub low : (i : ℕ) → In i u → y ≤ last_of R i
  pub is : (y ≡ 65536) ⊎ ((i : ℕ) × In i u × (y ≡ last_of R i))

module _ (R : Recorder) (valid : Valid R) where
  -- No job of u is late at the time t if and only if t is no later than the smallest last start.
  pub none_late : (t y : ℕ) (u : List ℕ) → ((i : ℕ) → In i u → i < jobs R) → ((i : ℕ) → In i u → t ≤ last_of R i) → late R t u ≡ false
  unfolding late
  none_late t y [] known h = refl
  none_late t y (i ∷ u) known h =
      let f = valid.fits i (known i (inl refl)) in
      let l : earliest R t i + run R i ≤ deadline R i = omega (arith, f, h i (inl refl)) in
      rw (le-ltb (deadline R i) (earliest R t i + run R i) l) (none_late t y u (λ k w. known k (inr w)) (λ k w. h k (inr w)))

  one_late : (t i : ℕ) (u : List ℕ) → In i u → last_of R i < t → late R t u ≡ true
  unfolding late
  one_late t i (k ∷ u) (inl e) l =
      let q : deadline R k < earliest R t k + run R k = rw e at (step l) in
      rw (lt-ltb (deadline R k) (earliest R t k + run R k) q)
    where
      step : last_of R i < t → deadline R i < earliest R t i + run R i
      step l = omega arith
  one_late t i (k ∷ u) (inr w) l = either (ltb (deadline R k) (earliest R t k + run R k)) (one_late t i u w l)
    where
      either : (b : Bool) → late R t u ≡ true → (b || late R t u) ≡ true
      either true e = refl
      either false e = e
  one_late t i [] x'' l = elim x'' [ ]

  late_is : (t y : ℕ) (u : List ℕ) → ((i : ℕ) → In i u → i < jobs R) → Least R u y → t < 65536 → late R t u ≡ ltb y t
  late_is t y u known h few = go (ltb y t) refl
    where
      go : (b : Bool) → ltb y t ≡ b → late R t u ≡ b
      go true q =
          let l = ltb-true y t q in
          ⊎_elim (λ (e : y ≡ 65536). absurd (omega (arith, e, l, few))) (λ w. one_late t w.0 u w.1 (omega (arith, w.2, l))) h.is
      go false q = none_late t y u known (λ i w. omega (arith, ltb-false y t q, h.low i w))

  module _ (m k : ℕ) (v : Vertex) (h : Reached R (suc k) v) (d : Dues) (two : TwoLeast R m (jobs R) d) (j : ℕ) (i : In j v.unplaced)
      (to : (n : ℕ) → In n v.unplaced → (n < jobs R) × (has m n ≡ true)) (from : (n : ℕ) → n < jobs R → has m n ≡ true → In n v.unplaced) where
    others : List ℕ
    others = remove j v.unplaced

    apart : (n : ℕ) → In n others → n ≡ j → ⊥
    unfolding others
    apart n w e = not_in_remove j v.unplaced 0 h.rising (subst (λ (x : ℕ). In x (remove j v.unplaced)) e w)

    least_others : Least R others (due_for d j)
    unfolding due_for others
    least_others =
        cond_cases (Least R (remove j v.unplaced)) (eqb d.at.0 j)
        (λ q. let e = eqb-true d.at.0 j q in
        record {
          low = λ n w. let o = to n (in_remove j n v.unplaced w) in two.second_low n o.0 o.1 (λ (f : n ≡ d.at.0). apart n w (f ∙ e));
          is = ⊎_elim inl (λ w. inr (w.0, remove_in j w.0 v.unplaced (from w.0 w.1 w.2) (λ (f : w.0 ≡ j). w.3 (f ∙ sym e)), w.4)) two.second_is;
        })
        (λ q. let ne = eqb-false d.at.0 j q in
        record {
          low = λ n w. let o = to n (in_remove j n v.unplaced w) in two.first_low n o.0 o.1;
          is = ⊎_elim inl (λ w. inr (d.at.0, remove_in j d.at.0 v.unplaced (from d.at.0 w.0 w.1) ne, w.2)) two.first_is;
        })

    -- Cut A of the child is one comparison.
    pub cut_limit :
        (x s : ℕ) → x ≡ total (run R) (remove j v.unplaced) → x ≤ R.horizon → s + run R j ≤ R.horizon
        → cut_a R (child R v j s) ≡ ltb (limit_for R.horizon x d j) (s + run R j)
    unfolding cut_a limit_for others
    cut_limit x s e small by =
        rw (late_is (s + run R j) (due_for d j) (remove j v.unplaced) (λ n w. h.known n (in_remove j n v.unplaced w)) least_others (omega (arith, valid.few_ticks)), ← e)
        (both (due_for d j) (s + run R j))
      where
        both : (y t : ℕ) → (ltb y t || ltb R.horizon (t + x)) ≡ ltb (min (R.horizon - x) y) t
        both y t = go (ltb y t) refl (ltb R.horizon (t + x)) refl
          where
            go : (b : Bool) → ltb y t ≡ b → (c : Bool) → ltb R.horizon (t + x) ≡ c → (b || c) ≡ ltb (min (R.horizon - x) y) t
            go true p c q = sym (lt-ltb (min (R.horizon - x) y) t (omega (arith, ltb-true y t p)))
            go false p true q = sym (lt-ltb (min (R.horizon - x) y) t (omega (arith, ltb-true R.horizon (t + x) q)))
            go false p false q = sym (le-ltb (min (R.horizon - x) y) t (omega (arith, ltb-false y t p, ltb-false R.horizon (t + x) q)))
