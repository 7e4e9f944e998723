-- The first child that has the goal: the loop over the jobs.
use mathlib.Core.Path.{◌≡◌, sym, subst, ◌∙◌}
use mathlib.Core.Bool.{true, false, true≢false}
use mathlib.Core.List.{List}
use mathlib.Core.Logic.{⊎_elim}
use mathlib.Core.Option.{some}
use Prim.Native.Nat.{ℕ, suc, ◌+◌, ◌*◌, ◌≤◌, ◌<◌}
use native.Mathlib.Nat.{mul-le-mul_right, eq-or-lt_of_le}
use native.Mathlib.Numerals.{add-one}
use native.Mathlib.Omega.{arith}
use Rattle.base.specs.Lists.{In}
use Rattle.schedule.specs.declared.Recorder.{Recorder}
use Rattle.schedule.specs.Quantities.{jobs, Valid}
use Rattle.schedule.specs.Visiting.{Vertex, starts}
use Rattle.latest.specs.inside.Sets.{has}
use Rattle.value.specs.inside.Leasts.{least_of, via_child, FirstChild}
use Rattle.value.proofs.Reading.{no_hit}
use Rattle.value.proofs.Steps.{first_by_lem}
use Rattle.least.specs.inside.Shown.{Shows}
use Rattle.least.specs.Effort.{most_of}
use Rattle.least.specs.inside.Readings.{First, Nowhere}
use Rattle.vertex.proofs.Showing.{job_in_lem, in_job}

module _ (R : Recorder) (l : List ℕ) (a time goal start : ℕ) where
  -- No job before j has a start with the goal.
  pub record Sought (j enters : ℕ) : Type 0 where
    pub so_far :
        (m : ℕ) (u : Vertex) → Shows R l a (suc m) u → u.time ≡ time
        → (enters ≤ start + j * (R.horizon * most_of R m 0))
        × ((i y : ℕ) → i < j → In i u.unplaced → In y (starts R u.time i) → via_child R m u i y ≡ some goal → ⊥)

  pub sought_none : Sought 0 start
  sought_none = record { so_far = λ m u h t. (omega arith, λ i y q. absurd (omega arith)) }

module _ (R : Recorder) (valid : Valid R) (l : List ℕ) (a time goal budget start : ℕ) where
  module _ (j e : ℕ) (c : Sought R l a time goal start j e) where
    pub sought_passed : has a j ≡ false → Sought R l a time goal start (j + 1) e
    sought_passed q =
        rw (add-one j)
        (record {
          so_far = λ m u h t.
              let p = c.so_far m u h t in (
                omega (arith, p.0),
                λ i y b o r w. ⊎_elim
                    (λ (k : i ≡ j). true≢false (sym (subst (λ (n : ℕ). has a n ≡ true) k (in_job R valid l a (suc m) u h i o).1) ∙ q))
                    (λ (k : i < j). p.1 i y k o r w)
                    (eq-or-lt_of_le (omega arith)),
              );
        })

    module _ (known : j < jobs R) where
      one_more : (m : ℕ) → j * (R.horizon * most_of R m 0) + R.horizon * most_of R m 0 ≤ jobs R * (R.horizon * most_of R m 0)
      one_more m = let k = mul-le-mul_right (R.horizon * most_of R m 0) known in omega arith

      pub sought_stopped :
          ((m : ℕ) (u : Vertex) → Shows R l a (suc m) u → u.time ≡ time → budget < e + R.horizon * most_of R m 0)
          → (m : ℕ) (u : Vertex) → Shows R l a (suc m) u → u.time ≡ time → budget < start + jobs R * (R.horizon * most_of R m 0)
      sought_stopped turn m u h t = omega (arith, turn m u h t, (c.so_far m u h t).0, one_more m)

      pub sought_next :
          (f : ℕ) → ((m : ℕ) (u : Vertex) → Shows R l a (suc m) u → u.time ≡ time → (f ≤ e + R.horizon * most_of R m 0) × Nowhere R m u j goal)
          → Sought R l a time goal start (j + 1) f
      sought_next f turn =
          rw (add-one j)
          (record {
            so_far = λ m u h t. (
              omega (arith, (turn m u h t).0, (c.so_far m u h t).0),
              λ i y b o r p. ⊎_elim
                  (λ (q : i ≡ j). (turn m u h t).1 y (subst (λ (n : ℕ). In y (starts R u.time n)) q r)
                  (subst (λ (n : ℕ). via_child R m u n y ≡ some goal) q p))
                  (λ (q : i < j). (c.so_far m u h t).1 i y q o r p)
                  (eq-or-lt_of_le (omega arith)),
            );
          })

      pub sought_found :
          has a j ≡ true → (f x : ℕ)
          → ((m : ℕ) (u : Vertex) → Shows R l a (suc m) u → u.time ≡ time → (f ≤ e + R.horizon * most_of R m 0) × First R m u j goal x)
          → (m : ℕ) (u : Vertex) → Shows R l a (suc m) u → u.time ≡ time → least_of R (suc m) u ≡ some goal
          → (f ≤ start + jobs R * (R.horizon * most_of R m 0)) × FirstChild R m u j x
      sought_found one f x turn m u h t g =
          let w = turn m u h t in
          let p = c.so_far m u h t in (
            omega (arith, w.0, p.0, one_more m),
            first_by_lem R m u goal g j x (job_in_lem R valid l a (suc m) u h j known one) w.1.start w.1.hits p.1 w.1.none_before,
          )

  -- Some child always has it.
  pub sought_all :
      (j e : ℕ) → Sought R l a time goal start j e → j ≡ jobs R → (m : ℕ) (u : Vertex) → Shows R l a (suc m) u → u.time ≡ time
      → least_of R (suc m) u ≡ some goal → ⊥
  sought_all j e c q m u h t g =
      no_hit R m u h.reached.rising goal g (λ i y o r w. (c.so_far m u h t).1 i y (omega (arith, h.reached.known i o)) o r w)
