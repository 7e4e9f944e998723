-- The best of a visit stays, or falls: what takes its place costs less.
use mathlib.Core.Path.{◌≡◌, refl, ◌∙◌}
use mathlib.Core.Option.{Option, none, some}
use mathlib.Core.List.{List, [], ◌∷◌}
use mathlib.Core.Logic.{◌⊎◌, inl, inr}
use Prim.Native.Nat.{ℕ, zero, suc, ◌<◌}
use native.Mathlib.Omega.{arith}
use lib.Dec.{ltb}
use borrow.Author.Tests.{ltb-true}
use Rattle.base.specs.Loops.{through}
use Rattle.base.proofs.Cases.{cond_cases}
use Rattle.schedule.specs.declared.Recorder.{Recorder}
use Rattle.schedule.specs.Visiting.{Vertex, Visited, Walk, counted, child, starts_of, starts, choices, cut_a, plan_energy, better, cut_b, complete, examine, visit}

through_keeps : (P : Visited → Type 0) (g : ℕ → Walk) → ((k : ℕ) (st : Visited) → P st → P (g k st)) → (l : List ℕ) (st : Visited) → P st → P (through g l st)
through_keeps P g turn [] st h = h
through_keeps P g turn (k ∷ l) st h = through_keeps P g turn l (g k st) (turn k st h)

module _ (R : Recorder) where
  -- The second costs less, or there is no first.
  unfoldable pub Less : Option (List ℕ) → Option (List ℕ) → Type 0
  Less b none = ⊥
  Less none (some t) = Unit {0}
  Less (some s) (some t) = plan_energy R t < plan_energy R s

  abbrev pub Falls : Option (List ℕ) → Option (List ℕ) → Type 0
  Falls b c = (c ≡ b) ⊎ Less b c

  less_on : (a b c : Option (List ℕ)) → Less a b → Less b c → Less a c
  unfolding Less
  less_on a b none h k = k
  less_on none b (some t) h k = tt
  less_on (some s) none (some t) h k = absurd h
  less_on (some s) (some q) (some t) h k = omega arith

  falls_on : (a b c : Option (List ℕ)) → Falls a b → Falls b c → Falls a c
  falls_on a b c (inl e) (inl f) = inl (f ∙ e)
  falls_on a b c (inl e) (inr k) = inr (rw e at k)
  falls_on a b c (inr h) (inl f) = inr (rw f h)
  falls_on a b c (inr h) (inr k) = inr (less_on a b c h k)

  better_falls : (b : Option (List ℕ)) (s : List ℕ) → Falls b (better R b s)
  unfolding better Less
  better_falls none s = inr tt
  better_falls (some t) s =
      cond_cases (Falls (some t)) (ltb (plan_energy R s) (plan_energy R t)) (λ q. inr (ltb-true (plan_energy R s) (plan_energy R t) q)) (λ q. inl refl)

  complete_falls : (v : Vertex) (st : Visited) → Falls st.best (complete R v st).best
  unfolding complete
  complete_falls v st =
      cond_cases (λ (u : Visited). Falls st.best u.best) (cut_a R v) (λ q. inl refl) (λ q. better_falls st.best (starts_of R v))

  pub choices_falls :
      (f : Vertex → Walk) → ((v : Vertex) (st : Visited) → Falls st.best (f v st).best) → (v : Vertex) (st : Visited)
      → Falls st.best (choices R f v st).best
  unfolding choices
  choices_falls f each v st =
      through_keeps (λ u. Falls st.best u.best) (λ j. through (λ x. f (child R v j x)) (starts R v.time j))
      (λ j. through_keeps (λ u. Falls st.best u.best) (λ x. f (child R v j x))
      (λ x u h. falls_on st.best u.best (f (child R v j x) u).best h (each (child R v j x) u)) (starts R v.time j))
      v.unplaced st (inl refl)

  pub visit_falls : (m : ℕ) (v : Vertex) (st : Visited) → Falls st.best (visit R m v st).best
  unfolding visit examine
  visit_falls zero v st = complete_falls v st
  visit_falls (suc m) v st =
      cond_cases (λ (u : Visited). Falls st.best u.best) (cut_a R v) (λ q. inl refl)
      (λ q. cond_cases (λ (u : Visited). Falls st.best u.best) (cut_b R v st.best) (λ q. inl refl)
      (λ q. choices_falls (visit R m) (visit_falls m) v (counted st)))
