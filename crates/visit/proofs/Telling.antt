-- What the tally tells, kept from one step of the search to the next: one vertex more, a job placed and taken back, a complete vertex offered.
use mathlib.Core.Path.{◌≡◌, refl, sym, ap, ◌∙◌, subst}
use mathlib.Core.Bool.{Bool, true, false, cond, true≢false}
use mathlib.Core.List.{List}
use mathlib.Core.Option.{Option, none, some}
use Prim.Native.Nat.{ℕ, ◌+◌, ◌≤◌, ◌<◌}
use native.Mathlib.Decide.{ℕ_discrete}
use native.Mathlib.Omega.{arith}
use lib.Dec.{eqb}
use lib.ListN.{get_or, length, length-set}
use lib.Seq.{get_or-set_same, get_or-set_other}
use borrow.Author.Tests.{lt-ltb, le-ltb}
use Rattle.base.specs.Lists.{In, remove}
use Rattle.base.proofs.Numbers.{length_nil, remove_in, in_remove}
use Rattle.schedule.specs.declared.Recorder.{Recorder}
use Rattle.schedule.specs.Quantities.{jobs, Valid}
use Rattle.schedule.specs.Visiting.{Vertex, Visited, child, starts_of, counted, plan_energy, better}
use Rattle.schedule.proofs.Runs.{length_starts, run_feasible}
use Rattle.schedule.proofs.Tree.{Reached, starts_child, full_run}
use Rattle.recall.specs.inside.Slack.{more}
use Rattle.visit.specs.declared.tally.Tally.{Tally}
use Rattle.visit.specs.inside.Lent.{Long, more_counted, noted, count_at, energy_at, start_at, best_at, stop_at, Bests, Holds, Tells, Came, done, over, ended}
use Rattle.visit.specs.inside.Stops.{entered}
use Rattle.visit.specs.inside.Offers.{Bettered, Offered, kept, taken}

module _ (R : Recorder) where
  -- The best is the same in two tallies.
  pub best_same : (l w : Tally) → energy_at w ≡ energy_at l → ((j : ℕ) → j < jobs R → best_at w j ≡ best_at l j) → (o : Option (List ℕ)) → Bests R l o → Bests R w o
  unfolding Bests
  best_same l w e h none b = e ∙ b
  best_same l w e h (some s) b = (e ∙ b.0, omega (arith, e, b.1), b.2, (λ j m. h j m ∙ b.3 j m), b.4)

  -- Where the visit would have ended, there is no best yet.
  none_told : (l : Tally) (o : Option (List ℕ)) → o ≡ none → Bests R l o → energy_at l ≡ 4294967295
  unfolding Bests
  none_told l none e b = b
  none_told l (some s) e b = let z : ◌≡◌ {A = ℕ} 0 1 = cc in absurd (omega arith)

  pub tells_none : (stop : Bool) (budget : ℕ) (l : Tally) (v : Vertex) (st : Visited) → Tells R stop budget l v st → stop ≡ true → energy_at l ≡ 4294967295
  tells_none stop budget l v st t e = none_told l st.best (t.going e) t.best

  module _ (stop : Bool) (budget : ℕ) where
    -- ---- one vertex more

    pub tells_counted : (n : ℕ) (l : Tally) (v : Vertex) (st : Visited) → Tells R stop budget l v st → count_at l + n ≤ budget → Tells R stop budget (more_counted n l) v (more n st)
    tells_counted n l v st t less =
        record {
          long = t.long;
          stops = t.stops;
          count = ap (λ (c : ℕ). c + n) t.count;
          best = best_same l (more_counted n l) refl (λ j b. refl) st.best t.best;
          path = t.path;
          within = omega (arith, t.count, less);
          going = t.going;
        }

    pub tells_one : (l : Tally) (v : Vertex) (st : Visited) → Tells R stop budget l v st → count_at l < budget → Tells R stop budget (more_counted 1 l) v (counted st)
    tells_one l v st t less = subst (Tells R stop budget (more_counted 1 l) v) (ap (λ (c : ℕ). record { count = c; best = st.best }) (omega arith)) (tells_counted 1 l v st t (omega (arith, less)))

    -- ---- a job placed, and taken back

    module _ (v : Vertex) (j s : ℕ) (i : In j v.unplaced) where
      pub tells_noted : (l : Tally) (st : Visited) → j < 16 → Tells R stop budget l v st → Tells R stop budget (noted j s l) (child R v j s) st
      tells_noted l st few t =
          record {
            long = rw length-set t.long;
            stops = t.stops;
            count = t.count;
            best = best_same l (noted j s l) refl (λ k b. refl) st.best t.best;
            path = path;
            within = t.within;
            going = t.going;
          }
        where
          path : (k : ℕ) → k < jobs R → (In k (remove j v.unplaced) → ⊥) → start_at (noted j s l) k ≡ get_or (starts_of R (child R v j s)) k 0
          path k b ne =
              elim (ℕ_discrete k j) [
                | yes e ↦
                    rw (e, starts_child R v j s)
                    (get_or-set_same l.placed j s 0 (omega (arith, few, t.long))
                    ∙ sym (get_or-set_same (starts_of R v) j s 0 (omega (arith, b, e, length_starts R v.placed))))
                | no o ↦
                    rw (starts_child R v j s)
                    (get_or-set_other l.placed j k s 0 o ∙ t.path k b (λ w. ne (remove_in j k v.unplaced w o))
                    ∙ sym (get_or-set_other (starts_of R v) j k s 0 o))
              ]

      tells_back : (l : Tally) (st : Visited) → Tells R stop budget l (child R v j s) st → Tells R stop budget l v st
      tells_back l st t =
          record {
            long = t.long;
            stops = t.stops;
            count = t.count;
            best = t.best;
            path = λ k b ne.
                let o : k ≡ j → ⊥ = λ e. ne (subst (λ (x : ℕ). In x v.unplaced) (sym e) i) in
                t.path k b (λ w. ne (in_remove j k v.unplaced w)) ∙ ap (λ (u : List ℕ). get_or u k 0) (starts_child R v j s) ∙ get_or-set_other (starts_of R v) j k s 0 o;
            within = t.within;
            going = t.going;
          }

      pub came_back : (l : Tally) (st : Visited) (b : Bool) → Came R stop budget l (child R v j s) st b → Came R stop budget l v st b
      came_back l st false (done t) = done (tells_back l st t)
      came_back l st true (over m q n) = over m q n
      came_back l st true (ended m e q h) = ended m e q h

    -- ---- a complete vertex offered

    module _ (v : Vertex) (h : Reached R 0 v) (valid : Valid R) (l w : Tally) (e : ℕ) (st : Visited) (e-is : e ≡ plan_energy R (starts_of R v)) (small : e < 4294967295) where
      none_left : (k : ℕ) → In k v.unplaced → ⊥
      none_left k i = subst (In k) (length_nil v.unplaced h.size) i

      better_is : (o : Option (List ℕ)) → Bests R l o → e < energy_at l → better R o (starts_of R v) ≡ some (starts_of R v)
      unfolding better Bests
      better_is none b less = refl
      better_is (some s) b less = rw (lt-ltb (plan_energy R (starts_of R v)) (plan_energy R s) (omega (arith, e-is, b.0, less)))

      better_not : (o : Option (List ℕ)) → Bests R l o → energy_at l ≤ e → better R o (starts_of R v) ≡ o
      unfolding better Bests
      better_not none b more = absurd (omega (arith, b, more, small))
      better_not (some s) b more = rw (le-ltb (plan_energy R (starts_of R v)) (plan_energy R s) (omega (arith, e-is, b.0, more)))

      best_taken : Bettered e l w → Tells R stop budget l v st → Bests R w (some (starts_of R v))
      unfolding Bests
      best_taken c t = (
        c.energy ∙ e-is,
        omega (arith, c.energy, small),
        length_starts R v.placed,
        (λ j b. c.best j (omega (arith, b, valid.few_jobs)) ∙ t.path j b (none_left j)),
        run_feasible R v.placed (full_run R valid v h),
      )

      -- The tally holds what the visit comes to.
      holds_offered : Offered e l w → Tells R stop budget l v st → Holds R budget w (entered R stop 0 v st)
      unfolding entered
      holds_offered (taken less c) t =
          rw (better_is st.best t.best less) (record { count = c.count ∙ t.count; best = best_taken c t; within = t.within })
      holds_offered (kept more same) t =
          rw (better_not st.best t.best more, same) (record { count = t.count; best = t.best; within = t.within })

      -- All else is as it was.
      offered_path : Offered e l w → (j : ℕ) → j < 16 → start_at w j ≡ start_at l j
      offered_path (kept more same) j b = ap (λ (x : Tally). start_at x j) same
      offered_path (taken less c) j b = c.starts j b

      offered_stops : Offered e l w → (Long l → Long w) × (stop_at w ≡ stop_at l)
      offered_stops (kept more same) = ((λ q. ap (λ (x : Tally). length x.placed) same ∙ q), ap stop_at same)
      offered_stops (taken less c) = ((λ q. c.long), c.stops)

      tells_offered : Offered e l w → stop ≡ false → Tells R stop budget l v st → Tells R stop budget w v (entered R stop 0 v st)
      tells_offered o go t =
          let k = holds_offered o t in
          record {
            long = (offered_stops o).0 t.long;
            stops = (offered_stops o).1 ∙ t.stops;
            count = k.count;
            best = k.best;
            path = λ j b ne. offered_path o j (omega (arith, b, valid.few_jobs)) ∙ t.path j b ne;
            within = k.within;
            going = λ q. absurd (true≢false (sym q ∙ go));
          }

      -- Where the visit stops there was no best, so that this is one.
      offered_found : Offered e l w → energy_at l ≡ 4294967295 → energy_at w < 4294967295
      offered_found (kept more same) n = absurd (omega (arith, more, small, n))
      offered_found (taken less c) n = omega (arith, c.energy, small)

      came_cases : (b : Bool) → stop ≡ b → Offered e l w → Tells R stop budget l v st → Came R stop budget w v (entered R stop 0 v st) b
      came_cases false q o t = done (tells_offered o q t)
      came_cases true q o t = ended ((offered_stops o).1 ∙ t.stops) q (offered_found o (tells_none stop budget l v st t q)) (holds_offered o t)

      stop_is : (b : Bool) → stop ≡ b → stop_at w ≡ cond stop 1 0 → eqb (stop_at w) 1 ≡ b
      stop_is true q r = rw (r, q)
      stop_is false q r = rw (r, q)

      -- The call answers whether the visit stops.
      pub came_offered : Offered e l w → (b : Bool) → b ≡ eqb (stop_at w) 1 → Tells R stop budget l v st → Came R stop budget w v (entered R stop 0 v st) b
      came_offered o b is t = came_cases b (sym (is ∙ stop_is stop refl ((offered_stops o).1 ∙ t.stops))) o t

pub counted_less : (l x : Tally) → Long l → x ≡ more_counted 1 l → Long x × (energy_at x ≡ energy_at l)
counted_less l x h e = rw e (h, refl)

pub noted_less : (l x : Tally) (j y : ℕ) → Long l → x ≡ noted j y l → Long x × (energy_at x ≡ energy_at l)
noted_less l x j y h e = rw e (rw length-set h, refl)

pub offered_less : (e : ℕ) (l w : Tally) → Long l → Offered e l w → Long w × (energy_at w ≤ energy_at l)
offered_less e l w h (kept more same) = (ap (λ (x : Tally). length x.placed) same ∙ h, omega (arith, ap energy_at same))
offered_less e l w h (taken less c) = (c.long, omega (arith, c.energy, less))
