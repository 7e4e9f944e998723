-- The visit of a vertex (specs/inside/Stops): it only adds to the count; where a cut drops the vertex it counts it alone; and else it enters it.
use mathlib.Core.Path.{◌≡◌, refl, sym, ap, ◌∙◌}
use mathlib.Core.Bool.{Bool, true, false, true≢false}
use mathlib.Core.List.{List, [], ◌∷◌}
use mathlib.Core.Logic.{◌⊎◌, inl, inr, ⊎_elim}
use mathlib.Core.Option.{Option, none, some}
use Prim.Native.Nat.{ℕ, zero, suc, ◌+◌, ◌≤◌, ◌<◌}
use native.Mathlib.Nat.{le_refl, le_trans}
use native.Mathlib.Omega.{arith}
use borrow.Author.Tests.{le-leb, lt-leb, le-ltb}
use Rattle.base.specs.Lists.{up_from}
use Rattle.base.specs.Loops.{through}
use Rattle.base.proofs.Cases.{cond_cases}
use Rattle.schedule.specs.declared.Recorder.{Recorder}
use Rattle.schedule.specs.Quantities.{Valid, device}
use Rattle.schedule.specs.Visiting.{Vertex, Visited, Walk, child, starts, starts_of, cut_a, cut_b, counted, floor, plan_energy, better, choices, complete, examine}
use Rattle.schedule.proofs.Tree.{Reached}
use Rattle.keys.proofs.Rises.{energy_complete}
use Rattle.vertex.proofs.Most.{floor_most}
use Rattle.recall.specs.inside.Slack.{more}
use Rattle.visit.specs.declared.tally.Tally.{Tally}
use Rattle.visit.specs.inside.Lent.{energy_at, Bests}
use Rattle.visit.specs.inside.Stops.{Open, visit_by, entered}
use Rattle.visit.proofs.Stopping.{unless_going, visit_ended}

-- ---- the count

pub through_grows : (g : ℕ → Walk) → ((k : ℕ) (st : Visited) → st.count ≤ (g k st).count) → (u : List ℕ) (st : Visited) → st.count ≤ (through g u st).count
through_grows g h [] st = le_refl _
through_grows g h (k ∷ u) st = le_trans (h k st) (through_grows g h u (g k st))

-- Once ended nothing more is done.
pub through_ended :
    (g : ℕ → Walk) (s : List ℕ) → ((k : ℕ) (st : Visited) → st.best ≡ some s → g k st ≡ st) → (u : List ℕ) (st : Visited) → st.best ≡ some s → through g u st ≡ st
through_ended g s h [] st e = refl
through_ended g s h (k ∷ u) st e = rw (h k st e) (through_ended g s h u st e)

-- Where every turn counts one vertex and leaves the best, so many are counted.
pub through_counts :
    (g : ℕ → Walk) (o : Option (List ℕ)) (s n : ℕ) (st : Visited) → st.best ≡ o → ((t : ℕ) (w : Visited) → s ≤ t → t < s + n → w.best ≡ o → g t w ≡ counted w)
    → through g (up_from s n) st ≡ more n st
through_counts g o s zero st e h = ap (λ (c : ℕ). record { count = c; best = st.best }) (omega arith)
through_counts g o s (suc n) st e h =
    ap (through g (up_from (suc s) n)) (h s st (le_refl _) (omega arith) e)
    ∙ through_counts g o (suc s) n (counted st) e (λ t w low high. h t w (omega (arith, low)) (omega (arith, high)))
    ∙ ap (λ (c : ℕ). record { count = c; best = st.best }) (omega arith)

module _ (R : Recorder) (stop : Bool) where
  -- The starts of job j at v, in turn.
  abbrev pub job_walk : ℕ → Vertex → ℕ → Walk
  job_walk m v j = through (λ (x : ℕ). visit_by R stop m (child R v j x)) (starts R v.time j)

  -- ---- a visit that has not ended

  visit_complete : (v : Vertex) (st : Visited) → Open stop st → visit_by R stop zero v st ≡ complete R v st
  unfolding visit_by
  visit_complete v st o = unless_going stop st.best _ st o

  visit_examine : (m : ℕ) (v : Vertex) (st : Visited) → Open stop st → visit_by R stop (suc m) v st ≡ examine R v (choices R (visit_by R stop m) v) st
  unfolding visit_by
  visit_examine m v st o = unless_going stop st.best _ st o

  -- ---- the count

  complete_grows : (v : Vertex) (st : Visited) → suc st.count ≤ (complete R v st).count
  unfolding complete
  complete_grows v st = cond_cases (λ (w : Visited). suc st.count ≤ w.count) (cut_a R v) (λ q. le_refl _) (λ q. le_refl _)

  examine_grows : (v : Vertex) (below : Walk) → ((st : Visited) → st.count ≤ (below st).count) → (st : Visited) → suc st.count ≤ (examine R v below st).count
  unfolding examine
  examine_grows v below h st =
      cond_cases (λ (w : Visited). suc st.count ≤ w.count) (cut_a R v) (λ q. le_refl _)
      (λ q. cond_cases (λ (w : Visited). suc st.count ≤ w.count) (cut_b R v st.best) (λ q'. le_refl _) (λ q'. h (counted st)))

  open_or : (c : Bool) → stop ≡ c → (o : Option (List ℕ)) → (stop ≡ true → o ≡ none) ⊎ ((s : List ℕ) × (stop ≡ true) × (o ≡ some s))
  open_or c e none = inl (λ _. refl)
  open_or false e (some s) = inl (λ q. absurd (true≢false (sym q ∙ e)))
  open_or true e (some s) = inr (s, e, refl)

  -- What the visit does not do once it has ended, it does where it has not.
  visit_cases : (m : ℕ) (v : Vertex) (st : Visited) → (Open stop st → st.count ≤ (visit_by R stop m v st).count) → st.count ≤ (visit_by R stop m v st).count
  visit_cases m v st h = ⊎_elim h (λ w. rw (visit_ended R stop m v st w.0 w.1 w.2) (le_refl _)) (open_or stop refl st.best)

  pub visit_grows : (m : ℕ) (v : Vertex) (st : Visited) → st.count ≤ (visit_by R stop m v st).count
  unfolding choices
  visit_grows zero v st = visit_cases zero v st (λ o. rw (visit_complete v st o) (le_trans (omega arith) (complete_grows v st)))
  visit_grows (suc m) v st =
      visit_cases (suc m) v st (λ o. rw (visit_examine m v st o) (le_trans (omega arith) (examine_grows v _
      (through_grows (job_walk m v) (λ j s. through_grows (λ x. visit_by R stop m (child R v j x)) (λ x s'. visit_grows m (child R v j x) s') (starts R v.time j) s) v.unplaced) st)))

  pub start_grows : (m : ℕ) (v : Vertex) (j x : ℕ) (st : Visited) → st.count ≤ (visit_by R stop m (child R v j x) st).count
  start_grows m v j x st = visit_grows m (child R v j x) st

  pub job_grows : (m : ℕ) (v : Vertex) (j : ℕ) (st : Visited) → st.count ≤ (job_walk m v j st).count
  job_grows m v j st = through_grows (λ x. visit_by R stop m (child R v j x)) (start_grows m v j) (starts R v.time j) st

  pub choices_grow : (m : ℕ) (u : Vertex) (st : Visited) → st.count ≤ (choices R (visit_by R stop m) u st).count
  unfolding choices
  choices_grow m u st = through_grows (job_walk m u) (λ j s. job_grows m u j s) u.unplaced st

  -- The vertex itself is counted.
  pub visit_one : (m : ℕ) (v : Vertex) (st : Visited) → Open stop st → suc st.count ≤ (visit_by R stop m v st).count
  visit_one zero v st o = rw (visit_complete v st o) (complete_grows v st)
  visit_one (suc m) v st o = rw (visit_examine m v st o) (examine_grows v _ (choices_grow m v) st)

  -- ---- once ended

  module _ (e : stop ≡ true) (s : List ℕ) where
    pub start_ended : (m : ℕ) (v : Vertex) (j x : ℕ) (st : Visited) → st.best ≡ some s → visit_by R stop m (child R v j x) st ≡ st
    start_ended m v j x st q = visit_ended R stop m (child R v j x) st s e q

    pub job_ended : (m : ℕ) (v : Vertex) (j : ℕ) (st : Visited) → st.best ≡ some s → job_walk m v j st ≡ st
    job_ended m v j st q = through_ended (λ x. visit_by R stop m (child R v j x)) s (λ x. start_ended m v j x) (starts R v.time j) st q

  -- ---- a vertex that a cut drops

  complete_cut : (v : Vertex) (st : Visited) → cut_a R v ≡ true → complete R v st ≡ counted st
  unfolding complete
  complete_cut v st q = rw q

  examine_cut : (v : Vertex) (below : Walk) (st : Visited) → cut_a R v ≡ true → examine R v below st ≡ counted st
  unfolding examine
  examine_cut v below st q = rw q

  pub visit_cut : (m : ℕ) (v : Vertex) (st : Visited) → Open stop st → cut_a R v ≡ true → visit_by R stop m v st ≡ counted st
  visit_cut zero v st o q = visit_complete v st o ∙ complete_cut v st q
  visit_cut (suc m) v st o q = visit_examine m v st o ∙ examine_cut v _ st q

  better_kept : (o : Option (List ℕ)) (s t : List ℕ) → o ≡ some s → plan_energy R s ≤ plan_energy R t → better R o t ≡ o
  unfolding better
  better_kept o s t e h = rw (e, le-ltb (plan_energy R t) (plan_energy R s) h)

  cut_b_beaten : (v : Vertex) (o : Option (List ℕ)) (s : List ℕ) → o ≡ some s → plan_energy R s ≤ floor R v → cut_b R v o ≡ true
  unfolding cut_b
  cut_b_beaten v o s e h = rw (e, le-leb (plan_energy R s) (floor R v) h)

  module _ (valid : Valid R) where
    complete_beaten : (v : Vertex) (st : Visited) (s : List ℕ) → Reached R 0 v → st.best ≡ some s → plan_energy R s ≤ floor R v → complete R v st ≡ counted st
    unfolding complete
    complete_beaten v st s h e low =
        let k = better_kept st.best s (starts_of R v) e (omega (arith, energy_complete R valid v h)) in
        rw k (cond_cases (λ (w : Visited). w ≡ counted st) (cut_a R v) (λ q. refl) (λ q. refl))

    examine_beaten : (v : Vertex) (below : Walk) (st : Visited) (s : List ℕ) → st.best ≡ some s → plan_energy R s ≤ floor R v → examine R v below st ≡ counted st
    unfolding examine
    examine_beaten v below st s e low =
        rw (cut_b_beaten v st.best s e low) (cond_cases (λ (w : Visited). w ≡ counted st) (cut_a R v) (λ q. refl) (λ q. refl))

    visit_beaten :
        (m : ℕ) (v : Vertex) (st : Visited) (s : List ℕ) → Open stop st → Reached R m v → st.best ≡ some s → plan_energy R s ≤ floor R v
        → visit_by R stop m v st ≡ counted st
    visit_beaten zero v st s o h e low = visit_complete v st o ∙ complete_beaten v st s h e low
    visit_beaten (suc m) v st s o h e low = visit_examine m v st o ∙ examine_beaten v _ st s e low

    module _ (narrow : (k : ℕ) → k < R.devices.count → (device R k).pw ≤ 65535) (m : ℕ) (v : Vertex) (h : Reached R m v) (l : Tally) where
      -- Its floor is no less than the energy of the best, so that there is one.
      low_beaten :
          (st : Visited) (o : Option (List ℕ)) → Open stop st → st.best ≡ o → Bests R l o → floor R v ≤ 2147450880 → energy_at l ≤ floor R v
          → visit_by R stop m v st ≡ counted st
      unfolding Bests
      low_beaten st none g e b most low = absurd (omega (arith, b, most, low))
      low_beaten st (some s) g e b most low = visit_beaten m v st s g h e (omega (arith, b.0, low))

      low_cases : (st : Visited) → Open stop st → Bests R l st.best → energy_at l ≤ floor R v → (c : Bool) → cut_a R v ≡ c → visit_by R stop m v st ≡ counted st
      low_cases st g b low true q = visit_cut m v st g q
      low_cases st g b low false q = low_beaten st st.best g refl b (floor_most R valid narrow m v h q) low

      pub visit_dropped : (st : Visited) → Open stop st → Bests R l st.best → (cut_a R v ≡ true) ⊎ (energy_at l ≤ floor R v) → visit_by R stop m v st ≡ counted st
      visit_dropped st g b = ⊎_elim (visit_cut m v st g) (λ low. low_cases st g b low (cut_a R v) refl)

  -- ---- a vertex that no cut drops

  complete_entered : (v : Vertex) (st : Visited) → cut_a R v ≡ false → complete R v st ≡ entered R stop zero v (counted st)
  unfolding complete entered
  complete_entered v st q = rw q

  examine_entered : (m : ℕ) (v : Vertex) (st : Visited) → cut_a R v ≡ false → cut_b R v st.best ≡ false → examine R v (choices R (visit_by R stop m) v) st ≡ entered R stop (suc m) v (counted st)
  unfolding examine entered
  examine_entered m v st q b = rw (q, b)

  pub visit_entered :
      (m : ℕ) (v : Vertex) (st : Visited) → Open stop st → cut_a R v ≡ false → cut_b R v st.best ≡ false → visit_by R stop m v st ≡ entered R stop m v (counted st)
  visit_entered zero v st o q b = visit_complete v st o ∙ complete_entered v st q
  visit_entered (suc m) v st o q b = visit_examine m v st o ∙ examine_entered m v st q b

  pub cut_b_spared : (v : Vertex) (o : Option (List ℕ)) (l : Tally) → Bests R l o → floor R v < energy_at l → cut_b R v o ≡ false
  unfolding cut_b Bests
  cut_b_spared v none l b h = refl
  cut_b_spared v (some s) l b h = lt-leb (plan_energy R s) (floor R v) (omega (arith, b.0))
