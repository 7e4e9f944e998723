-- The count of the visit that stops when a schedule is found, beside that of the search: never above it, and the same where nothing is feasible.
use mathlib.Core.Path.{◌≡◌, refl, sym, ap, subst}
use mathlib.Core.Bool.{false, cond}
use mathlib.Core.Option.{Option, none, some}
use mathlib.Core.List.{List, [], ◌∷◌}
use mathlib.Core.Logic.{◌⊎◌, inl, inr, ⊎_elim}
use Prim.Native.Nat.{ℕ, zero, suc, ◌≤◌}
use native.Mathlib.Omega.{arith}
use Rattle.base.specs.Loops.{through}
use Rattle.base.proofs.Cases.{test_cases}
use Rattle.schedule.specs.declared.Recorder.{Recorder}
use Rattle.schedule.specs.Quantities.{jobs, Valid}
use Rattle.schedule.specs.Listing.{Feasible}
use Rattle.schedule.specs.Visiting.{Vertex, Visited, Walk, counted, root, child, starts, choices, cut_a, better, cut_b, complete, examine, visit, visited, vertices}
use Rattle.possible.specs.TillFound.{unless_found, found, enter, visit_till_found, visited_till_found, vertices_till_found}
use Rattle.possible.proofs.Found.{none_found}
use Rattle.visit.proofs.Stopping.{visit_whole}
use Rattle.visit.proofs.Visits.{visit_grows}

abbrev Grows : Walk → Type 0
Grows f = (st : Visited) → st.count ≤ (f st).count

search_grows : (R : Recorder) (m : ℕ) (v : Vertex) → Grows (visit R m v)
search_grows R m v st = subst (λ (w : Visited). st.count ≤ w.count) (visit_whole R m v st) (visit_grows R false m v st)

-- What the one visit p has come to, beside the search q: the same; or p has found a schedule and stands, and q counts on.
abbrev Behind : Visited → Visited → Type 0
Behind p q = (p ≡ q) ⊎ ((s : List ℕ) × (p.best ≡ some s) × (p.count ≤ q.count))

through_behind :
    (f g : ℕ → Walk) → ((k : ℕ) (p q : Visited) → Behind p q → Behind (f k p) (g k q))
    → (l : List ℕ) (p q : Visited) → Behind p q → Behind (through f l p) (through g l q)
through_behind f g each [] p q h = h
through_behind f g each (k ∷ l) p q h = through_behind f g each l (f k p) (g k q) (each k p q h)

module _ (R : Recorder) where
  choices_behind :
      (f g : Vertex → Walk) → ((v : Vertex) (p q : Visited) → Behind p q → Behind (f v p) (g v q))
      → (v : Vertex) (p q : Visited) → Behind p q → Behind (choices R f v p) (choices R g v q)
  unfolding choices
  choices_behind f g each v =
      through_behind _ _ (λ j. through_behind _ _ (λ x. each (child R v j x)) (starts R v.time j)) v.unplaced

  -- Once found the one stands, and the search counts on; so only a walk from nothing found has to be looked at.
  unless_behind :
      (f g : Walk) → Grows g → ((n : ℕ) → let p : Visited = record { count = n; best = none } in Behind (f p) (g p))
      → (p q : Visited) → Behind p q → Behind (unless_found p.best f p) (g q)
  unfolding unless_found
  unless_behind f g grows both p q (inl e) = subst (λ (w : Visited). Behind (unless_found p.best f p) (g w)) e (go p.count p.best)
    where
      go : (n : ℕ) (b : Option (List ℕ)) → let w : Visited = record { count = n; best = b } in Behind (unless_found b f w) (g w)
      go n none = both n
      go n (some s) = inr (s, refl, grows (record { count = n; best = some s }))
  unless_behind f g grows both p q (inr (s, e, l)) =
      subst (λ (b : Option (List ℕ)). Behind (unless_found b f p) (g q)) (sym e) (inr (s, e, omega (arith, grows q)))

  -- With nothing found yet both do the same at a vertex: cut B has no best to hold it against.
  visit_behind : (m : ℕ) (v : Vertex) (p q : Visited) → Behind p q → Behind (visit_till_found R m v p) (visit R m v q)
  unfolding visit_till_found visit enter complete examine better cut_b
  visit_behind zero v p q h =
      unless_behind (enter R v (found R v)) (visit R zero v) (search_grows R zero v)
      (λ n. let w : Visited = record { count = n; best = none } in
      test_cases (λ t. Behind (cond t counted (found R v) w) (cond t (counted w) (found R v w))) (cut_a R v) (λ e. inl refl) (λ e. inl refl))
      p q h
  visit_behind (suc m) v p q h =
      unless_behind (enter R v (λ w. choices R (visit_till_found R m) v (counted w))) (visit R (suc m) v) (search_grows R (suc m) v)
      (λ n. let w : Visited = record { count = n; best = none } in
      test_cases (λ t. Behind (cond t counted (λ w'. choices R (visit_till_found R m) v (counted w')) w) (cond t (counted w) (choices R (visit R m) v (counted w))))
      (cut_a R v) (λ e. inl refl)
      (λ e. choices_behind (visit_till_found R m) (visit R m) (visit_behind m) v (counted w) (counted w) (inl refl)))
      p q h

  all_behind : Behind (visited_till_found R) (visited R)
  unfolding visited_till_found visited
  all_behind = visit_behind (jobs R) (root R) (record { count = 0; best = none }) (record { count = 0; best = none }) (inl refl)

  -- It counts no more vertices than the search,
  pub fewer_vertices : vertices_till_found R ≤ vertices R
  fewer_vertices = ⊎_elim (λ e. omega (arith, ap (λ (w : Visited). w.count) e)) (λ w. w.2) all_behind

  none_count : (visited_till_found R).best ≡ none → vertices_till_found R ≡ vertices R
  none_count h = ⊎_elim (λ e. ap (λ (w : Visited). w.count) e) (λ w. absurd (never w.0 w.1)) all_behind
    where
      never : (s : List ℕ) → (visited_till_found R).best ≡ some s → ⊥
      never s e = let z : ◌≡◌ {A = ℕ} 0 1 = cc in omega arith

  -- and just as many where nothing is feasible.
  pub same_vertices : Valid R → ((s : List ℕ) → Feasible R s → ⊥) → vertices_till_found R ≡ vertices R
  same_vertices valid h = none_count (none_found R valid h)
