-- How a sleep is written plays no part in planning: a recorder that differs in nothing else has the same schedules, rows and energies, the same plan, and as many vertices.
use mathlib.Core.Path.{◌≡◌, refl, sym, ap, subst}
use mathlib.Core.Bool.{Bool, cond}
use mathlib.Core.Option.{Option, none, some}
use mathlib.Core.List.{List, [], ◌∷◌}
use Prim.Native.Nat.{ℕ, zero, suc, ◌+◌, ◌-◌}
use Rattle.base.proofs.Additions.{sum_same}
use Rattle.base.proofs.Turns.{through_same}
use Rattle.device.specs.declared.Sleeps.{Sleeps}
use Rattle.device.specs.Row.{Letter, LeastRow, energy_of}
use Rattle.device.proofs.Pattern.{pattern_alike}
use Rattle.schedule.specs.declared.Recorder.{Recorder}
use Rattle.schedule.specs.Quantities.{device, jobs, run, uses}
use Rattle.schedule.specs.Listing.{Feasible, Place, used, places, uses_of, Rows, Costs, FirstLeast}
use Rattle.schedule.specs.Visiting.{Vertex, Visited, counted, root, child, starts_of, starts, choices, late, cut_a, plan_energy, better, last_end, first_start, since, device_floor, floor, cut_b, complete, examine, visit, visited, vertices}

abbrev pub lettered : Sleeps → Recorder → Recorder
lettered sleeps R = record { horizon = R.horizon; round = R.round; sleeps = sleeps; devices = R.devices; jobs = R.jobs }

module _ (sleeps : Sleeps) (R : Recorder) where
  pub feasible_lettered : {s : List ℕ} → Feasible R s → Feasible (lettered sleeps R) s
  feasible_lettered f = record { one_each = f.one_each; released = f.released; in_time = f.in_time; apart = f.apart }

  pub feasible_plain : {s : List ℕ} → Feasible (lettered sleeps R) s → Feasible R s
  feasible_plain f = record { one_each = f.one_each; released = f.released; in_time = f.in_time; apart = f.apart }

  used_lettered : (k : ℕ) (ps : List Place) (t : ℕ) → used (lettered sleeps R) k ps t ≡ used R k ps t
  unfolding used
  used_lettered k [] t = refl
  used_lettered k (p ∷ ps) t = rw (used_lettered k ps t)

  uses_lettered : (s : List ℕ) (k : ℕ) → uses_of (lettered sleeps R) s k ≡ uses_of R s k
  uses_lettered s k = pattern_alike (used (lettered sleeps R) k (places R s)) (used R k (places R s)) 0 R.horizon (λ t a b. used_lettered k (places R s) t)

  pub rows_lettered : {s : List ℕ} {rows : ℕ → List Letter} → Rows R s rows → Rows (lettered sleeps R) s rows
  rows_lettered {s} {rows} r = record { least = λ k l. subst (λ (u : List Bool). LeastRow R.round (device R k) u (rows k)) (sym (uses_lettered s k)) (r.least k l) }

  pub rows_plain : {s : List ℕ} {rows : ℕ → List Letter} → Rows (lettered sleeps R) s rows → Rows R s rows
  rows_plain {s} {rows} r = record { least = λ k l. subst (λ (u : List Bool). LeastRow R.round (device R k) u (rows k)) (uses_lettered s k) (r.least k l) }

  pub costs_lettered : {s : List ℕ} {e : ℕ} → Costs R s e → Costs (lettered sleeps R) s e
  costs_lettered c = record { rows = c.rows; least = rows_lettered c.least; sums = c.sums }

  pub costs_plain : {s : List ℕ} {e : ℕ} → Costs (lettered sleeps R) s e → Costs R s e
  costs_plain c = record { rows = c.rows; least = rows_plain c.least; sums = c.sums }

  pub plan_lettered : {s : List ℕ} {e : ℕ} → FirstLeast R s e → FirstLeast (lettered sleeps R) s e
  plan_lettered p = record {
    feasible = feasible_lettered p.feasible;
    costs = costs_lettered p.costs;
    least = λ s' e' f c. p.least s' e' (feasible_plain f) (costs_plain c);
    first = λ s' f c. p.first s' (feasible_plain f) (costs_plain c);
  }

-- ---- and as many vertices are visited

module _ (sleeps : Sleeps) (R : Recorder) where
  abbrev Q : Recorder
  Q = lettered sleeps R

  late_lettered : (t : ℕ) (l : List ℕ) → late Q t l ≡ late R t l
  unfolding late
  late_lettered t [] = refl
  late_lettered t (j ∷ l) = rw (late_lettered t l)

  cut_a_lem : (v : Vertex) → cut_a Q v ≡ cut_a R v
  unfolding cut_a
  cut_a_lem v = rw (late_lettered v.time v.unplaced)

  energy_lettered : (s : List ℕ) → plan_energy Q s ≡ plan_energy R s
  unfolding plan_energy
  energy_lettered s =
      sum_same R.devices.count _ (λ k. energy_of R.round (device R k) (uses_of R s k)) (λ k l. ap (energy_of R.round (device R k)) (uses_lettered sleeps R s k))

  better_lettered : (b : Option (List ℕ)) (s : List ℕ) → better Q b s ≡ better R b s
  unfolding better
  better_lettered none s = refl
  better_lettered (some b) s = rw (energy_lettered s, energy_lettered b)

  last_lettered : (k e : ℕ) (ps : List Place) → last_end Q k e ps ≡ last_end R k e ps
  unfolding last_end
  last_lettered k e [] = refl
  last_lettered k e (p ∷ ps) = last_lettered k (cond (uses R k p.job) (p.start + run R p.job) e) ps

  first_lettered : (k : ℕ) (ps : List Place) → first_start Q k ps ≡ first_start R k ps
  unfolding first_start
  first_lettered k [] = refl
  first_lettered k (p ∷ ps) = rw (first_lettered k ps)

  since_lettered : (k : ℕ) (ps : List Place) → since Q k ps ≡ since R k ps
  unfolding since
  since_lettered k ps = rw (first_lettered k ps)

  floor_of : (k : ℕ) (v : Vertex) → device_floor Q k v ≡ device_floor R k v
  unfolding device_floor
  floor_of k v =
      let a = since R k v.placed in
      let e = last_end R k 0 v.placed in
      rw (
        since_lettered k v.placed,
        last_lettered k 0 v.placed,
        pattern_alike (used Q k v.placed) (used R k v.placed) a (e - a) (λ t x y. used_lettered sleeps R k v.placed t),
      )

  floor_lettered : (v : Vertex) → floor Q v ≡ floor R v
  unfolding floor
  floor_lettered v = sum_same R.devices.count _ (λ k. device_floor R k v) (λ k l. floor_of k v)

  cut_b_lem : (v : Vertex) (b : Option (List ℕ)) → cut_b Q v b ≡ cut_b R v b
  unfolding cut_b
  cut_b_lem v none = refl
  cut_b_lem v (some b) = rw (energy_lettered b, floor_lettered v)

  complete_lettered : (v : Vertex) (st : Visited) → complete Q v st ≡ complete R v st
  unfolding complete
  complete_lettered v st = rw (cut_a_lem v, better_lettered st.best (starts_of R v))

  visit_lettered : (m : ℕ) (v : Vertex) (st : Visited) → visit Q m v st ≡ visit R m v st
  unfolding visit examine choices starts
  visit_lettered zero v st = complete_lettered v st
  visit_lettered (suc m) v st =
      let below : choices Q (visit Q m) v (counted st) ≡ choices R (visit R m) v (counted st)
      = through_same _ _ v.unplaced
      (λ j l. through_same _ (λ i. visit R m (child R v j i)) (starts R v.time j) (λ i n. visit_lettered m (child R v j i))) (counted st) in
      rw (cut_a_lem v, cut_b_lem v st.best, below)

  pub vertices_lettered : vertices Q ≡ vertices R
  unfolding visited
  vertices_lettered = ap (λ (x : Visited). x.count) (visit_lettered (jobs R) (root R) (record { count = 0; best = none }))
