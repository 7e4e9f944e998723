-- The search's visit, where it is told to stop, is the one that ends once it has found a schedule; and what it finds, without devices, is an answer of `any_plan`.
use mathlib.Core.Path.{◌≡◌, refl, sym, ap, ◌∙◌}
use mathlib.Core.Bool.{Bool, true, cond}
use mathlib.Core.Option.{Option, none, some}
use mathlib.Core.List.{List}
use Prim.Native.Nat.{ℕ, zero, suc}
use native.Mathlib.Omega.{arith}
use Rattle.std.specs.Prelude.{Result}
use Rattle.base.proofs.Cases.{test_cases}
use Rattle.schedule.specs.declared.Recorder.{Recorder}
use Rattle.schedule.specs.Quantities.{jobs, Valid}
use Rattle.schedule.specs.Visiting.{Vertex, Visited, counted, root, choices, cut_a, cut_b, better, complete, examine}
use Rattle.visit.specs.declared.Found.{Found}
use Rattle.visit.specs.declared.Unfound.{Unfound}
use Rattle.visit.specs.inside.Stops.{unless_ended, visit_by, visited_by}
use Rattle.visit.specs.inside.Lent.{Finds}
use Rattle.visit.specs.inside.Lent as Visit
use Rattle.visit.proofs.Stopping.{choices_same}
use Rattle.planner.specs.inside.Found.{answer_in}
use Rattle.planner.specs.Promises.{stops, gives_such}
use Rattle.planner.proofs.Refusing.{unless_enough, unless_some}
use Rattle.possible.specs.TillFound.{unless_found, found, enter, visit_till_found, visited_till_found}
use Rattle.possible.specs.inside.Bare.{Bare}
use Rattle.possible.specs.Promises.{PossibleOf}
use Rattle.possible.proofs.Found.{found_first, found_none}
use Rattle.possible.proofs.Without.{bare_energy, visited_same}

module _ (R : Recorder) where
  complete_till : (v : Vertex) (n : ℕ) (b : Option (List ℕ)) → let w : Visited = record { count = n; best = b } in visit_by R true zero v w ≡ visit_till_found R zero v w
  unfolding visit_by visit_till_found unless_ended unless_found complete enter better
  complete_till v n none =
      let w : Visited = record { count = n; best = none } in
      test_cases (λ (t : Bool). cond t (counted w) (found R v w) ≡ cond t counted (found R v) w) (cut_a R v) (λ e. refl) (λ e. refl)
  complete_till v n (some s) = refl

  examine_till :
      (m : ℕ) (v : Vertex) → ((st : Visited) → choices R (visit_by R true m) v st ≡ choices R (visit_till_found R m) v st) → (n : ℕ) (b : Option (List ℕ))
      → let w : Visited = record { count = n; best = b } in visit_by R true (suc m) v w ≡ visit_till_found R (suc m) v w
  unfolding visit_by visit_till_found unless_ended unless_found examine enter cut_b
  examine_till m v below n none =
      let w : Visited = record { count = n; best = none } in
      test_cases (λ (t : Bool). cond t (counted w) (choices R (visit_by R true m) v (counted w)) ≡ cond t counted (λ x. choices R (visit_till_found R m) v (counted x)) w) (cut_a R v)
      (λ e. refl) (λ e. below (counted w))
  examine_till m v below n (some s) = refl

  visit_till : (m : ℕ) (v : Vertex) (st : Visited) → visit_by R true m v st ≡ visit_till_found R m v st
  visit_till zero v st = complete_till v st.count st.best
  visit_till (suc m) v st = examine_till m v (choices_same R (visit_by R true m) (visit_till_found R m) (visit_till m) v) st.count st.best

  visited_till : visited_by R true ≡ visited_till_found R
  unfolding visited_by visited_till_found
  visited_till = visit_till (jobs R) (root R) (record { count = 0; best = none })

-- ---- the answer

-- f and l are what the search without devices found.
module _ (R : Recorder) (valid : Valid R) (Q : Recorder) (bare : Bare R Q) (budget : ℕ) (lent : List ℕ) where
  visited_is : visited_by Q true ≡ visited_till_found R
  visited_is = visited_till Q ∙ visited_same R Q bare

  count_is : (visited_by Q true).count ≡ (visited_till_found R).count
  count_is = ap (λ (w : Visited). w.count) visited_is

  best_is : (o : Option (List ℕ)) → (visited_by Q true).best ≡ o → (visited_till_found R).best ≡ o
  best_is o e = ap (λ (w : Visited). w.best) (sym visited_is) ∙ e

  pub first_is : (f : Result Found Unfound) (l : List ℕ) → Finds Q (visited_by Q true) budget lent f l → PossibleOf budget lent R (answer_in R.horizon f) l
  first_is f l (Visit.Finds.short q) = stops (omega (arith, q, bare.count))
  first_is f l (Visit.Finds.beyond room q) = unless_enough (omega (arith, room, bare.count)) (stops (omega (arith, q, count_is)))
  first_is f l (Visit.Finds.nowhere room covered q) =
      rw count_is
      (unless_enough (omega (arith, room, bare.count)) (unless_enough (omega (arith, covered, count_is)) (stops (found_none R valid (best_is none q)))))
  first_is f l (Visit.Finds.found {s = s} room covered q) =
      let first = found_first R valid s (best_is (some s) q) in
      rw (bare_energy R Q bare s, count_is, bare.count)
      (unless_enough (omega (arith, room, bare.count)) (unless_enough (omega (arith, covered, count_is)) (unless_some first.feasible (gives_such first))))
