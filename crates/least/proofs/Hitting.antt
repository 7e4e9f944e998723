-- A start that has the goal, and the first of them: the loop over the starts of a job.
use mathlib.Core.Path.{◌≡◌, refl, sym, ap, ◌∙◌, subst}
use mathlib.Core.Bool.{Bool, true, false, cond}
use mathlib.Core.List.{List}
use mathlib.Core.Logic.{⊎_elim}
use mathlib.Core.Option.{Option, some}
use Prim.Native.Nat.{ℕ, suc, ◌+◌, ◌-◌, ◌*◌, ◌^◌, ◌≤◌, ◌<◌, min}
use native.Mathlib.Nat.{mul-le-mul_right, eq-or-lt_of_le}
use native.Mathlib.Numerals.{add-one}
use native.Mathlib.Omega.{arith}
use lib.Dec.{eqb, ltb}
use borrow.Author.Tests.{eqb-true, eqb-false, ltb-true, ltb-false}
use Rattle.base.proofs.Cases.{test_cases}
use Rattle.schedule.specs.declared.Recorder.{Recorder}
use Rattle.schedule.specs.Quantities.{jobs, release, deadline, run, Valid}
use Rattle.schedule.specs.Visiting.{Vertex, child, earliest}
use Rattle.schedule.proofs.Tree.{in_starts, starts_in_lem}
use Rattle.latest.specs.inside.Sets.{has}
use Rattle.latest.specs.inside.Latest.{slot, latest_of}
use Rattle.value.specs.inside.Options.{plus, Answers}
use Rattle.value.specs.inside.Leasts.{lead_of, least_of, via_child}
use Rattle.value.proofs.Steps.{answer_hits, hits_answer, lead_misses, none_misses}
use Rattle.least.specs.inside.Shown.{leads_by, Shows}
use Rattle.least.specs.Effort.{most_of}
use Rattle.least.specs.inside.Readings.{Hit, First, Nowhere}
use Rattle.vertex.proofs.Showing.{leads_shown, job_in_lem}
use Rattle.least.proofs.Trials.{gone}

-- ---- one start

module _ (goal lead n : ℕ) (o : Option ℕ) (e : lead ≡ n) where
  pub hit_far : goal < lead → Hit goal (plus n o) false
  hit_far q = lead_misses goal n o (omega arith)

  module _ (a : ℕ) (l : lead ≤ goal) (w : Answers (goal - lead + 1) o a) where
    told_by : Answers (suc (goal - n)) o a
    told_by = subst (λ (k : ℕ). Answers k o a) (add-one (goal - lead) ∙ ap (λ (k : ℕ). suc (goal - k)) e) w

    pub hit_with : (b : Bool) → b ≡ eqb (lead + a) goal → Hit goal (plus n o) b
    hit_with true q = answer_hits goal n a o (omega arith) told_by (let k = eqb-true (lead + a) goal (sym q) in omega arith)
    hit_with false q = λ z. eqb-false (lead + a) goal (sym q) (let k = hits_answer goal n a o (omega arith) told_by z in omega arith)

-- ---- the loop

-- A start that is not below the slot is too late for the other jobs.
slot_over : (a d c x y : ℕ) → slot a d c x ≤ y → a ≤ y → y + c ≤ d → x ≤ y + c
unfolding slot
slot_over a d c x y h l q = go (ltb (a + c) (min x (suc d))) refl h
  where
    go : (b : Bool) → ltb (a + c) (min x (suc d)) ≡ b → cond b (min x (suc d) - c) 0 ≤ y → x ≤ y + c
    go true t h = omega arith
    go false t h = omega (arith, ltb-false (a + c) (min x (suc d)) t)

module _ (R : Recorder) (l : List ℕ) (a j time goal start from : ℕ) where
  -- The starts before s don't have the goal.
  pub record Passed (s enters : ℕ) : Type 0 where
    pub low : from ≤ s
    pub high : s - from ≤ R.horizon
    pub so_far :
        (m : ℕ) (u : Vertex) → Shows R l a (suc m) u → u.time ≡ time
        → (enters ≤ start + (s - from) * most_of R m 0) × ((y : ℕ) → from ≤ y → y < s → via_child R m u j y ≡ some goal → ⊥)

  pub passed_none : Passed from start
  passed_none = record { low = omega arith; high = omega arith; so_far = λ m u h t. (omega arith, λ y q k z. omega arith) }

module _ (R : Recorder) (valid : Valid R) (l : List ℕ) (a j time goal budget start from to : ℕ) (known : j < jobs R) (one : has a j ≡ true) (from_is : from ≡ earliest R time j) where
  module _ (s e : ℕ) (c : Passed R l a j time goal start from s e) (late : s + run R j ≤ deadline R j) (lead : ℕ) (lead_is : lead ≡ leads_by R l j s) where
    -- What `hits` answers, after f vertices.
    abbrev pub Turn : ℕ → Bool → Type 0
    Turn f b = (m : ℕ) (u : Vertex) → Shows R l a (suc m) u → u.time ≤ s → lead ≡ lead_of R u j s → (f ≤ e + most_of R m 0) × Hit goal (via_child R m u j s) b

    led : (m : ℕ) (u : Vertex) → Shows R l a (suc m) u → u.time ≡ time → (u.time ≤ s) × (lead ≡ lead_of R u j s)
    led m u h t = (omega (arith, c.low, from_is), lead_is ∙ leads_shown R valid l a (suc m) u h j s)

    enough : (m : ℕ) → (s - from) * most_of R m 0 + most_of R m 0 ≤ R.horizon * most_of R m 0
    enough m =
        let q : suc (s - from) ≤ R.horizon = omega (arith, valid.ends j known, valid.runs j known) in
        let k = mul-le-mul_right (most_of R m 0) q in
        omega arith

    pub start_stopped :
        ((m : ℕ) (u : Vertex) → Shows R l a (suc m) u → u.time ≤ s → lead ≡ lead_of R u j s → budget < e + most_of R m 0)
        → (m : ℕ) (u : Vertex) → Shows R l a (suc m) u → u.time ≡ time → budget < start + R.horizon * most_of R m 0
    start_stopped turn m u h t =
        let w = led m u h t in
        omega (arith, turn m u h w.0 w.1, (c.so_far m u h t).0, enough m)

    pub start_found :
        (f : ℕ) → Turn f true → (m : ℕ) (u : Vertex) → Shows R l a (suc m) u → u.time ≡ time → (f ≤ start + R.horizon * most_of R m 0) × First R m u j goal s
    start_found f turn m u h t =
        let l = led m u h t in
        let w = turn m u h l.0 l.1 in (
          omega (arith, w.0, (c.so_far m u h t).0, enough m),
          record {
            start = starts_in_lem R u.time j s (omega (arith, c.low, from_is)) late;
            hits = w.1;
            none_before = λ k q i. (c.so_far m u h t).1 k (omega (arith, (in_starts R u.time j k i).0, from_is)) q;
          },
        )

    pub passed_next : (f : ℕ) → Turn f false → Passed R l a j time goal start from (s + 1) f
    passed_next f turn =
        rw (add-one s)
        (record {
          low = omega (arith, c.low);
          high = omega (arith, valid.ends j known, valid.runs j known);
          so_far = more;
        })
      where
        more : (m : ℕ) (u : Vertex) → Shows R l a (suc m) u → u.time ≡ time
            → (f ≤ start + (suc s - from) * most_of R m 0) × ((k : ℕ) → from ≤ k → k < suc s → via_child R m u j k ≡ some goal → ⊥)
        more m u h t =
            let l = led m u h t in
            let w = turn m u h l.0 l.1 in
            let one_more : suc (s - from) ≡ suc s - from = omega (arith, c.low) in (
              rw (← one_more) (omega (arith, w.0, (c.so_far m u h t).0)),
              λ k low b p. ⊎_elim
                  (λ (i : k ≡ s). w.1 (subst (λ (n : ℕ). via_child R m u j n ≡ some goal) i p))
                  (λ (i : k < s). (c.so_far m u h t).1 k low i p)
                  (eq-or-lt_of_le (omega arith)),
            )

  pub start_nowhere :
      (s e : ℕ) → Passed R l a j time goal start from s e → to ≡ slot (release R j) (deadline R j) (run R j) (latest_of R (a - 2 ^ j)) → to ≤ s
      → (m : ℕ) (u : Vertex) → Shows R l a (suc m) u → u.time ≡ time → (e ≤ start + R.horizon * most_of R m 0) × Nowhere R m u j goal
  start_nowhere s e c to_is q m u h t =
      let k = mul-le-mul_right (most_of R m 0) c.high in (
        omega (arith, (c.so_far m u h t).0),
        (λ y i p.
            let r = in_starts R u.time j y i in
            test_cases (λ (b : Bool). ltb y s ≡ b → ⊥) (ltb y s)
            (λ _ w. (c.so_far m u h t).1 y (omega (arith, r.0, from_is)) (ltb-true y s w) p)
            (λ _ w. none_misses goal (lead_of R u j y) (least_of R m (child R u j y))
            (gone R valid l a m u h j (job_in_lem R valid l a (suc m) u h j known one) y
            (slot_over (release R j) (deadline R j) (run R j) (latest_of R (a - 2 ^ j)) y (omega (arith, ltb-false y s w)) (omega (arith, r.0)) r.1) r.1) p)
            refl),
      )
