-- A budget that always covers the visiting order, by the horizon and the number of jobs alone: a vertex with m jobs unplaced has at most m × H children.
use mathlib.Core.Path.{◌≡◌, refl, subst}
use mathlib.Core.Bool.{Bool, cond}
use mathlib.Core.List.{List, [], ◌∷◌}
use mathlib.Core.Logic.{inl, inr}
use mathlib.Core.Option.{none}
use Prim.Native.Nat.{ℕ, zero, suc, ◌+◌, ◌-◌, ◌*◌, ◌≤◌, ◌<◌}
use native.Mathlib.Nat.{mul-le-mul_right}
use native.Mathlib.Omega.{arith}
use lib.ListN.{length}
use Rattle.base.specs.Lists.{In}
use Rattle.base.specs.Loops.{through}
use Rattle.base.proofs.Cases.{test_cases}
use Rattle.base.proofs.Numbers.{in_up, length_up, in_remove, length_remove}
use Rattle.schedule.specs.declared.Recorder.{Recorder}
use Rattle.schedule.specs.Quantities.{jobs, deadline, run, Valid}
use Rattle.schedule.specs.Visiting.{Vertex, Visited, Walk, counted, root, child, earliest, starts, choices, cut_a, cut_b, starts_of, better, complete, examine, visit, visited, vertices}
use Rattle.planner.specs.declared.Answer.{Answer}
use Rattle.planner.specs.Promises.{Reads}
use Rattle.planner.proofs.Larger.{Enough}
use Rattle.request.proofs.Accepted.{accepted_valid}
use Rattle.cheapest.specs.Promises.{CountedLeastPlanned}
use Rattle.cheapest.proofs.Only.{counted_all_enough}

-- The vertices from one with m jobs unplaced on, itself among them, are no more than this.
unfoldable pub most_below : (h m : ℕ) → ℕ
most_below h zero = 1
most_below h (suc m) = suc (suc m * (h * most_below h m))

-- What each member adds at most, all add so many times.
through_most : (b : ℕ) (g : ℕ → Walk) (l : List ℕ) → ((k : ℕ) → In k l → (st : Visited) → (g k st).count ≤ st.count + b)
    → (st : Visited) → (through g l st).count ≤ st.count + length l * b
through_most b g [] h st = omega arith
through_most b g (k ∷ l) h st =
    let one = h k (inl refl) st in
    let rest = through_most b g l (λ i n. h i (inr n)) (g k st) in
    omega (arith, one, rest)

module _ (R : Recorder) (valid : Valid R) where
  -- A job has no more starts than there are ticks.
  few_starts : (t j : ℕ) → j < jobs R → length (starts R t j) ≤ R.horizon
  unfolding starts
  few_starts t j h =
      let n = length_up (earliest R t j) (suc (deadline R j) - (earliest R t j + run R j)) in
      omega (arith, n, valid.runs j h, valid.ends j h)

  -- The jobs that are unplaced are known, and m in number.
  abbrev Left : ℕ → Vertex → Type 0
  Left m v = (length v.unplaced ≡ m) × ((j : ℕ) → In j v.unplaced → j < jobs R)

  child_left : (m : ℕ) (v : Vertex) (j x : ℕ) → Left (suc m) v → In j v.unplaced → Left m (child R v j x)
  child_left m v j x l i = (omega (arith, l.0, length_remove j v.unplaced i), λ k n. l.1 k (in_remove j k v.unplaced n))

  visit_most : (m : ℕ) (v : Vertex) → Left m v → (st : Visited) → (visit R m v st).count ≤ st.count + most_below R.horizon m
  unfolding visit complete examine choices most_below
  visit_most zero v l st =
      test_cases (λ (t : Bool). (cond t (counted st) (record { count = suc st.count; best = better R st.best (starts_of R v) })).count ≤ st.count + 1) (cut_a R v)
      (λ e. omega arith) (λ e. omega arith)
  visit_most (suc m) v l st =
      let b = most_below R.horizon m in
      let job : (j : ℕ) → In j v.unplaced → (w : Visited) → (through (λ x. visit R m (child R v j x)) (starts R v.time j) w).count ≤ w.count + R.horizon * b =
      λ j i w. let all = through_most b (λ x. visit R m (child R v j x)) (starts R v.time j) (λ x n u. visit_most m (child R v j x) (child_left m v j x l i) u) w in
      omega (arith, all, mul-le-mul_right b (few_starts v.time j (l.1 j i))) in
      let all = through_most (R.horizon * b) (λ j. through (λ x. visit R m (child R v j x)) (starts R v.time j)) v.unplaced job (counted st) in
      let below : (choices R (visit R m) v (counted st)).count ≤ suc st.count + suc m * (R.horizon * b) =
      subst (λ (n : ℕ). (choices R (visit R m) v (counted st)).count ≤ suc st.count + n * (R.horizon * b)) l.0 all in
      let fits : (choices R (visit R m) v (counted st)).count ≤ st.count + suc (suc m * (R.horizon * b)) = omega (arith, below) in
      test_cases (λ (t : Bool). (cond t (counted st) (cond (cut_b R v st.best) (counted st) (choices R (visit R m) v (counted st)))).count ≤ st.count + suc (suc m * (R.horizon * b))) (cut_a R v)
      (λ e. omega arith)
      (λ e. test_cases (λ (t : Bool). (cond t (counted st) (choices R (visit R m) v (counted st))).count ≤ st.count + suc (suc m * (R.horizon * b))) (cut_b R v st.best)
      (λ f. omega arith) (λ f. fits))

  pub vertices_most : vertices R ≤ most_below R.horizon (jobs R)
  unfolding visited
  vertices_most =
      let l : Left (jobs R) (root R) = (length_up 0 (jobs R), λ j i. omega (arith, (in_up 0 (jobs R) j i).1)) in
      let q : vertices R ≤ 0 + most_below R.horizon (jobs R) = visit_most (jobs R) (root R) l (record { count = 0; best = none }) in
      omega (arith, q)

-- With such a budget it is never given up.
pub most_enough : (file : List ℕ) (budget : ℕ) (lent : List ℕ) (R : Recorder) → Reads file R → most_below R.horizon (jobs R) ≤ budget
    → {a : Answer} {l : List ℕ} → CountedLeastPlanned file budget lent a l → Enough a
most_enough file budget lent R reads h = counted_all_enough file budget lent R reads (omega (arith, h, vertices_most R (accepted_valid file R reads)))
