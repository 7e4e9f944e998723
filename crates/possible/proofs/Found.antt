-- The visit that stops when a schedule is found finds the first of all feasible ones, and none exactly if nothing is feasible. It stands on the laws of the tree
-- (schedule/proofs/Tree), where every schedule costs the same.
use mathlib.Core.Path.{◌≡◌, refl, sym, subst}
use mathlib.Core.Option.{Option, none, some, some-injective}
use mathlib.Core.List.{List}
use Prim.Native.Nat.{ℕ, zero, suc}
use native.Mathlib.Omega.{arith}
use Rattle.base.proofs.Cases.{cond_cases}
use Rattle.schedule.specs.declared.Recorder.{Recorder}
use Rattle.schedule.specs.Quantities.{jobs, Valid}
use Rattle.schedule.specs.Listing.{Feasible, Earlier}
use Rattle.schedule.specs.Visiting.{Vertex, Visited, Walk, counted, root, starts_of, choices, cut_a}
use Rattle.schedule.proofs.Choice.{Chosen, Outcome, outcome_only, chosen_kept, chosen_new, Ahead, Either, Adds}
use Rattle.schedule.proofs.Tree.{Below, Reached, earlier_asym, root_reached, complete_below, complete_only, cut_a_adds, choices_adds, root_outcome}
use Rattle.possible.specs.TillFound.{First, unless_found, found, enter, visit_till_found, visited_till_found}

-- What every schedule costs.
abbrev same : List ℕ → ℕ
same s = 0

module _ (R : Recorder) where
  -- ---- the first, in the listing's words and in those of the tree

  chosen_first : (s : List ℕ) → Chosen same (Earlier R) (Feasible R) s → First R s
  chosen_first s h = record { feasible = h.among; first = λ s' f. h.first s' f refl }

  first_chosen : (s : List ℕ) → First R s → Chosen same (Earlier R) (Feasible R) s
  first_chosen s h = record { among = h.feasible; least = λ s' f. omega arith; first = λ s' f e. h.first s' f }

  -- No two schedules are the first.
  pub one_first : {s s' : List ℕ} → First R s → First R s' → s ≡ s'
  unfolding Outcome
  one_first {s} {s'} h h' =
      some-injective s s'
      (outcome_only same (Earlier R) (earlier_asym R) (Feasible R) (some s) (some s') (first_chosen s h) (first_chosen s' h'))

  -- ---- the visit

  -- What is found stays as it is; so only a walk from nothing found has to be looked at.
  unless_adds :
      (G : List ℕ → Type 0) (f : Walk) (F : List ℕ → Type 0) (st : Visited) (b : Option (List ℕ)) → st.best ≡ b
      → Outcome same (Earlier R) F b → Ahead (Earlier R) F G
      → (((s : List ℕ) → F s → ⊥) → Outcome same (Earlier R) (Either F G) (f st).best)
      → Outcome same (Earlier R) (Either F G) (unless_found b f st).best
  unfolding unless_found Outcome
  unless_adds G f F st none e o ahead go = go o
  unless_adds G f F st (some s) e o ahead go =
      subst (Outcome same (Earlier R) (Either F G)) (sym e) (chosen_kept same (Earlier R) F G s o ahead (λ s' g. omega arith))

  module _ (valid : Valid R) where
    enter_adds :
        (m : ℕ) (v : Vertex) → Reached R m v → (below : Walk) (F : List ℕ → Type 0) (st : Visited)
        → Outcome same (Earlier R) F st.best → Ahead (Earlier R) F (Below R v)
        → Outcome same (Earlier R) (Either F (Below R v)) (below st).best
        → Outcome same (Earlier R) (Either F (Below R v)) (enter R v below st).best
    unfolding enter
    enter_adds m v h below F st o ahead go =
        cond_cases (λ (w : Walk). Outcome same (Earlier R) (Either F (Below R v)) (w st).best) (cut_a R v)
        (λ e. cut_a_adds R valid same m v h e F st o ahead)
        (λ e. go)

    -- The visit of a vertex adds the schedules below it.
    visit_adds : (m : ℕ) (v : Vertex) → Reached R m v → Adds same (Earlier R) (Below R v) (visit_till_found R m v)
    unfolding visit_till_found Outcome
    visit_adds zero v h F st o ahead =
        unless_adds (Below R v) (enter R v (found R v)) F st st.best refl o ahead
        (λ empty. enter_adds zero v h (found R v) F st o ahead
        (chosen_new same (Earlier R) F (Below R v) (starts_of R v) (complete_below R valid v h) (complete_only R valid v h) (λ s f. absurd (empty s f))))
    visit_adds (suc m) v h F st o ahead =
        unless_adds (Below R v) (enter R v (λ w. choices R (visit_till_found R m) v (counted w))) F st st.best refl o ahead
        (λ empty. enter_adds (suc m) v h (λ w. choices R (visit_till_found R m) v (counted w)) F st o ahead
        (choices_adds R valid same m (visit_till_found R m) (visit_adds m) v h F (counted st) o ahead))

    outcome : Outcome same (Earlier R) (Feasible R) (visited_till_found R).best
    unfolding visited_till_found
    outcome = root_outcome R valid same (visit_till_found R (jobs R) (root R)) (visit_adds (jobs R) (root R) (root_reached R valid))

    -- s is found exactly if it is the first of all feasible schedules,
    pub found_first : (s : List ℕ) → (visited_till_found R).best ≡ some s → First R s
    unfolding Outcome
    found_first s e = chosen_first s (subst (Outcome same (Earlier R) (Feasible R)) e outcome)

    outcome_best : (o : Option (List ℕ)) → Outcome same (Earlier R) (Feasible R) o → (visited_till_found R).best ≡ o
    outcome_best o h = outcome_only same (Earlier R) (earlier_asym R) (Feasible R) (visited_till_found R).best o outcome h

    -- and nothing is found exactly if nothing is feasible.
    pub found_none : (visited_till_found R).best ≡ none → (s : List ℕ) → Feasible R s → ⊥
    unfolding Outcome
    found_none e = subst (Outcome same (Earlier R) (Feasible R)) e outcome

    pub none_found : ((s : List ℕ) → Feasible R s → ⊥) → (visited_till_found R).best ≡ none
    unfolding Outcome
    none_found h = outcome_best none h
