-- The visit with a stop, beside the search's own: where it does not stop, and as long as there is no complete vertex, both are the same; once it has ended it does
-- nothing more.
use mathlib.Core.Path.{◌≡◌, refl, sym, ap, ◌∙◌, subst}
use mathlib.Core.Bool.{Bool, true, false, cond}
use mathlib.Core.List.{List, [], ◌∷◌}
use mathlib.Core.Logic.{◌⊎◌, inl, inr}
use mathlib.Core.Option.{Option, none, some}
use Prim.Native.Nat.{ℕ, zero, suc}
use native.Mathlib.Omega.{arith}
use Rattle.base.specs.Loops.{through}
use Rattle.base.proofs.Cases.{cond_cases, test_cases}
use Rattle.base.proofs.Turns.{through_same}
use Rattle.schedule.specs.declared.Recorder.{Recorder}
use Rattle.schedule.specs.Quantities.{jobs}
use Rattle.schedule.specs.Visiting.{Vertex, Visited, Walk, counted, root, child, starts, cut_a, cut_b, better, choices, complete, examine, visit, visited}
use Rattle.recall.proofs.Falling.{Falls, Less, visit_falls}
use Rattle.visit.specs.inside.Stops.{Open, unless_ended, visit_by, visited_by}

-- ---- going and ended

no_some : (s : List ℕ) → ◌≡◌ {A = Option (List ℕ)} (some s) none → ⊥
no_some s e = let z : ◌≡◌ {A = ℕ} 0 1 = cc in omega arith

pub unless_going : (stop : Bool) (o : Option (List ℕ)) (f : Walk) (st : Visited) → (stop ≡ true → o ≡ none) → unless_ended stop o f st ≡ f st
unfolding unless_ended
unless_going stop none f st h = refl
unless_going false (some s) f st h = refl
unless_going true (some s) f st h = absurd (no_some s (h refl))

pub unless_ended_lem : (stop : Bool) (o : Option (List ℕ)) (f : Walk) (st : Visited) (s : List ℕ) → stop ≡ true → o ≡ some s → unless_ended stop o f st ≡ st
unfolding unless_ended
unless_ended_lem stop o f st s e q = rw (e, q)

module _ (R : Recorder) where
  pub visit_ended : (stop : Bool) (m : ℕ) (v : Vertex) (st : Visited) (s : List ℕ) → stop ≡ true → st.best ≡ some s → visit_by R stop m v st ≡ st
  unfolding visit_by
  visit_ended stop zero v st s e q = unless_ended_lem stop st.best _ st s e q
  visit_ended stop (suc m) v st s e q = unless_ended_lem stop st.best _ st s e q

  -- ---- without a stop

  pub choices_same : (f g : Vertex → Walk) → ((v : Vertex) (st : Visited) → f v st ≡ g v st) → (v : Vertex) (st : Visited) → choices R f v st ≡ choices R g v st
  unfolding choices
  choices_same f g h v = through_same _ _ v.unplaced (λ j l. through_same _ _ (starts R v.time j) (λ x n. h (child R v j x)))

  never : false ≡ true → ⊥
  never e = let z : ◌≡◌ {A = ℕ} 0 1 = cc in omega arith

  pub visit_whole : (m : ℕ) (v : Vertex) (st : Visited) → visit_by R false m v st ≡ visit R m v st
  unfolding visit_by visit examine
  visit_whole zero v st = unless_going false st.best _ st (λ e. absurd (never e))
  visit_whole (suc m) v st =
      unless_going false st.best _ st (λ e. absurd (never e))
      ∙ ap (λ (w : Visited). cond (cut_a R v) (counted st) (cond (cut_b R v st.best) (counted st) w)) (choices_same (visit_by R false m) (visit R m) (visit_whole m) v (counted st))

  pub visited_whole : visited_by R false ≡ visited R
  unfolding visited_by visited
  visited_whole = visit_whole (jobs R) (root R) (record { count = 0; best = none })

  -- ---- side by side

  unfoldable Present : Option (List ℕ) → Type 0
  Present none = ⊥
  Present (some s) = Unit {0}

  -- What the search's visit p has come to and the one that stops, q: the same, and nothing is found; or both have found something.
  abbrev Sides : Visited → Visited → Type 0
  Sides p q = ((p ≡ q) × (p.best ≡ none)) ⊎ (Present p.best × Present q.best)

  through_sides :
      (f g : ℕ → Walk) → ((k : ℕ) (p q : Visited) → Sides p q → Sides (f k p) (g k q)) → (l : List ℕ) (p q : Visited) → Sides p q
      → Sides (through f l p) (through g l q)
  through_sides f g each [] p q h = h
  through_sides f g each (k ∷ l) p q h = through_sides f g each l (f k p) (g k q) (each k p q h)

  choices_sides :
      (f g : Vertex → Walk) → ((v : Vertex) (p q : Visited) → Sides p q → Sides (f v p) (g v q)) → (v : Vertex) (p q : Visited) → Sides p q
      → Sides (choices R f v p) (choices R g v q)
  unfolding choices
  choices_sides f g each v = through_sides _ _ (λ j. through_sides _ _ (λ x. each (child R v j x)) (starts R v.time j)) v.unplaced

  present_falls : (o o' : Option (List ℕ)) → Present o → Falls R o o' → Present o'
  unfolding Present Less
  present_falls o o' p (inl e) = subst Present (sym e) p
  present_falls o none p (inr h) = absurd h
  present_falls o (some s) p (inr h) = tt

  unless_present : (f : Walk) (st : Visited) (o : Option (List ℕ)) → st.best ≡ o → Present o → Present (unless_ended true o f st).best
  unfolding unless_ended Present
  unless_present f st none e p = absurd p
  unless_present f st (some s) e p = subst Present (sym e) tt

  -- From nothing found.
  unless_fresh : (g f : Walk) (p q : Visited) → p ≡ q → p.best ≡ none → Sides (g p) (f p) → Sides (g p) (unless_ended true q.best f q)
  unfolding unless_ended
  unless_fresh g f p q e n h = subst (λ (w : Visited). Sides (g p) (unless_ended true w.best f w)) e (subst (λ (z : Visited). Sides (g p) z) (sym (unless_going true p.best f p (λ _. n))) h)

  -- Cut B drops nothing yet.
  cut_b_fresh : (v : Vertex) (o : Option (List ℕ)) → o ≡ none → cut_b R v o ≡ false
  unfolding cut_b
  cut_b_fresh v o n = rw n

  visit_sides : (m : ℕ) (v : Vertex) (p q : Visited) → Sides p q → Sides (visit R m v p) (visit_by R true m v q)
  unfolding visit_by visit complete examine better Present
  visit_sides zero v p q (inl (e, n)) =
      unless_fresh (complete R v) (complete R v) p q e n
      (cond_cases (λ (w : Visited). Sides w w) (cut_a R v) (λ c. inl (refl, n)) (λ c. rw n (inr (tt, tt))))
  visit_sides (suc m) v p q (inl (e, n)) =
      unless_fresh (visit R (suc m) v) (examine R v (choices R (visit_by R true m) v)) p q e n
      (test_cases (λ (t : Bool). Sides (cond t (counted p) (cond (cut_b R v p.best) (counted p) (choices R (visit R m) v (counted p)))) (cond t (counted p) (cond (cut_b R v p.best) (counted p) (choices R (visit_by R true m) v (counted p)))))
      (cut_a R v) (λ c. inl (refl, n)) (λ c. rw (cut_b_fresh v p.best n) (choices_sides (visit R m) (visit_by R true m) (visit_sides m) v (counted p) (counted p) (inl (refl, n)))))
  visit_sides zero v p q (inr (a, b)) = inr (present_falls p.best _ a (visit_falls R zero v p), unless_present _ q q.best refl b)
  visit_sides (suc m) v p q (inr (a, b)) = inr (present_falls p.best _ a (visit_falls R (suc m) v p), unless_present _ q q.best refl b)

  absent : (o : Option (List ℕ)) → o ≡ none → Present o → ⊥
  unfolding Present
  absent o e p = subst Present e p

  module _ (m : ℕ) (v : Vertex) (st : Visited) where
    sides : st.best ≡ none → Sides (choices R (visit R m) v st) (choices R (visit_by R true m) v st)
    sides n = choices_sides (visit R m) (visit_by R true m) (visit_sides m) v st st (inl (refl, n))

    -- Where the search's visit leaves the best, the other one does the same,
    pub choices_left : (stop : Bool) → Open stop st → (choices R (visit R m) v st).best ≡ st.best → choices R (visit_by R stop m) v st ≡ choices R (visit R m) v st
    choices_left false o e = choices_same (visit_by R false m) (visit R m) (visit_whole m) v st
    choices_left true o e = go (sides (o refl))
      where
        go : Sides (choices R (visit R m) v st) (choices R (visit_by R true m) v st) → choices R (visit_by R true m) v st ≡ choices R (visit R m) v st
        go (inl (s, n)) = sym s
        go (inr (a, b)) = absurd (absent _ (e ∙ o refl) a)

    -- and so it does where that one has not ended.
    pub choices_open : (stop : Bool) → Open stop st → Open stop (choices R (visit_by R stop m) v st) → choices R (visit_by R stop m) v st ≡ choices R (visit R m) v st
    choices_open false o e = choices_same (visit_by R false m) (visit R m) (visit_whole m) v st
    choices_open true o e = go (sides (o refl))
      where
        go : Sides (choices R (visit R m) v st) (choices R (visit_by R true m) v st) → choices R (visit_by R true m) v st ≡ choices R (visit R m) v st
        go (inl (s, n)) = sym s
        go (inr (a, b)) = absurd (absent _ (e refl) b)
