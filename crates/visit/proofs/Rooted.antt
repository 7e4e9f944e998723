-- The root: what the tally tells before it, and what its visit comes to.
use mathlib.Core.Path.{◌≡◌, refl, sym, ap, ◌∙◌, subst}
use mathlib.Core.Bool.{Bool, true, false, cond, true≢false, ◌||◌}
use mathlib.Core.List.{List}
use mathlib.Core.Option.{Option, none, some}
use Prim.Native.Nat.{ℕ, suc, ◌+◌, ◌-◌, ◌^◌, ◌≤◌, ◌<◌}
use native.Mathlib.Omega.{arith}
use lib.Dec.{eqb}
use lib.ListN.{get_or, length}
use borrow.Author.Tests.{lt-ltb, le-ltb, eq-eqb, ne_eqb}
use Rattle.base.specs.Lists.{up_from, up_to}
use Rattle.base.specs.Sums.{total, sum}
use Rattle.base.proofs.Arrays.{up_to_whole}
use Rattle.base.proofs.Numbers.{up_in, in_up}
use Rattle.schedule.specs.declared.Recorder.{Recorder}
use Rattle.schedule.specs.Quantities.{Valid, jobs, run}
use Rattle.schedule.specs.Listing.{Feasible}
use Rattle.schedule.specs.Visiting.{Visited, root, starts_of, cut_a, cut_b, late, counted, plan_energy, choices}
use Rattle.schedule.proofs.Tree.{Reached, root_reached}
use Rattle.latest.specs.inside.Sparing.{set_of}
use Rattle.keys.proofs.Rises.{energy_complete, ticks_by}
use Rattle.vertex.specs.inside.Shown.{ahead_at, load_at, closes_by, idle_floor, Shows}
use Rattle.vertex.proofs.Ending.{floor_idle}
use Rattle.vertex.proofs.Lasting.{none_late}
use Rattle.vertex.proofs.Roots.{set_all}
use Rattle.vertex.proofs.Showing.{some_suc, closes_shown}
use Rattle.visit.specs.declared.tally.Tally.{Tally}
use Rattle.visit.specs.inside.Lent.{Long, more_counted, count_at, energy_at, best_at, stop_at, Bests, Holds, Tells, Came, done, over, ended, Over, goes, alone, told, Stands}
use Rattle.visit.specs.inside.Stops.{visit_by, visited_by, entered}
use Rattle.visit.specs.inside.Offers.{Offered}
use Rattle.visit.proofs.Telling.{tells_one, came_offered}
use Rattle.visit.proofs.Visits.{visit_one, visit_cut, visit_entered}

-- Nothing is counted yet.
abbrev pub bare : Visited
bare = record { count = 0; best = none }

module _ (R : Recorder) (stop : Bool) (budget : ℕ) where
  pub root_tells : (l : Tally) → Long l → count_at l ≡ 0 → energy_at l ≡ 4294967295 → stop_at l ≡ cond stop 1 0 → Tells R stop budget l (root R) bare
  unfolding Bests
  root_tells l long count energy stops =
      record {
        long = long;
        stops = stops;
        count = count;
        best = energy;
        path = λ j b ne. absurd (ne (up_in 0 (jobs R) j (omega arith) (omega arith)));
        within = omega arith;
        going = λ e. refl;
      }

  pub root_over : budget ≡ 0 → (l : Tally) → energy_at l ≡ 4294967295 → stop_at l ≡ cond stop 1 0 → Came R stop budget l (root R) (visited_by R stop) true
  unfolding visited_by
  root_over e l energy stops = over stops (omega (arith, e, visit_one R stop (jobs R) (root R) bare (λ q. refl))) (λ q. energy)

  either : (b c : Bool) → c ≡ true → (b || c) ≡ true
  either true c e = refl
  either false c e = e

  neither : (b c : Bool) → b ≡ false → c ≡ false → (b || c) ≡ false
  neither b c e f = rw (e, f)

  module _ (valid : Valid R) (l : List ℕ) (shows : Shows R l (set_of (root R).unplaced) (jobs R) (root R)) where
    cut_root : R.horizon < load_at l → cut_a R (root R) ≡ true
    unfolding cut_a
    cut_root h = either (late R 0 (up_from 0 (jobs R))) _ (lt-ltb R.horizon (0 + total (run R) (up_from 0 (jobs R))) (omega (arith, h, shows.load)))

    module _ (room : load_at l ≤ R.horizon) where
      uncut_root : cut_a R (root R) ≡ false
      unfolding cut_a
      uncut_root =
          neither (late R 0 (up_from 0 (jobs R))) _
          (none_late R valid 0 0 (up_from 0 (jobs R)) (λ i w. omega (arith, in_up 0 (jobs R) i w)) (λ i w. omega arith))
          (le-ltb R.horizon (0 + total (run R) (up_from 0 (jobs R))) (omega (arith, room, shows.load)))

      pub root_aheads : (k : ℕ) → k < R.devices.count → ahead_at l k ≤ R.horizon
      root_aheads k b = omega (arith, shows.aheads k b, ticks_by R k (up_from 0 (jobs R)), room, shows.load)

      module _ (tally x : Tally) (tells : Tells R stop budget tally (root R) bare) (less : 0 < budget) (x-is : x ≡ more_counted 1 tally) where
        told_one : Tells R stop budget x (root R) (counted bare)
        told_one = rw x-is (tells_one R stop budget tally (root R) bare tells (omega (arith, less, tells.count)))

        visited_is : visited_by R stop ≡ entered R stop (jobs R) (root R) (counted bare)
        unfolding visited_by cut_b
        visited_is = visit_entered R stop (jobs R) (root R) bare (λ e. refl) uncut_root refl

        pub root_complete :
            jobs R ≡ 0 → (f e : ℕ) → f ≡ sum R.devices.count (idle_floor R l) → e ≡ f + closes_by R l → e < 4294967295 → (y : Tally) → Offered e x y
            → (b : Bool) → b ≡ eqb (stop_at y) 1 → Came R stop budget y (root R) (visited_by R stop) b
        root_complete none_left f e f-is e-is small y o b b-is =
            let r : Reached R 0 (root R) = subst (λ (n : ℕ). Reached R n (root R)) none_left (root_reached R valid) in
            let is : e ≡ plan_energy R (starts_of R (root R)) = omega (arith, e-is, f-is, floor_idle R l valid shows, closes_shown R valid l _ _ (root R) shows, energy_complete R valid (root R) r) in
            subst (λ (z : Visited). Came R stop budget y (root R) z b) (sym visited_is)
            (subst (λ (n : ℕ). Came R stop budget y (root R) (entered R stop n (root R) (counted bare)) b) (sym none_left)
            (came_offered R stop budget (root R) r valid x y e (counted bare) is small o b b-is told_one))

        -- With jobs to place its children are examined.
        pub root_some : (jobs R ≡ 0 → ⊥) → (n : ℕ) × (jobs R ≡ suc n)
        root_some ne = some_suc (jobs R) ne

        pub root_stands : (n : ℕ) → jobs R ≡ suc n → (a f : ℕ) → a ≡ 2 ^ jobs R - 1 → f ≡ sum R.devices.count (idle_floor R l) → Stands R l a f n (root R)
        root_stands n e a f a-is f-is =
            record {
              shows = subst (λ (k : ℕ). Shows R l k (suc n) (root R)) (set_all R ∙ sym a-is) (subst (λ (k : ℕ). Shows R l (set_of (root R).unplaced) k (root R)) e shows);
              floor_is = sym (floor_idle R l valid shows) ∙ sym f-is;
              spared = uncut_root;
            }

        pub root_one : Tells R stop budget x (root R) (counted bare)
        root_one = told_one

        pub root_came : (n : ℕ) → jobs R ≡ suc n → (y : Tally) (b : Bool) → Came R stop budget y (root R) (choices R (visit_by R stop n) (root R) (counted bare)) b → Came R stop budget y (root R) (visited_by R stop) b
        unfolding entered
        root_came n e y b c =
            subst (λ (z : Visited). Came R stop budget y (root R) z b) (sym visited_is)
            (subst (λ (k : ℕ). Came R stop budget y (root R) (entered R stop k (root R) (counted bare)) b) (sym e) c)

    pub root_cut :
        R.horizon < load_at l → (tally x : Tally) → Tells R stop budget tally (root R) bare → 0 < budget → x ≡ more_counted 1 tally → Came R stop budget x (root R) (visited_by R stop) false
    unfolding visited_by
    root_cut h tally x tells less x-is =
        done (subst (Tells R stop budget x (root R)) (sym (visit_cut R stop (jobs R) (root R) bare (λ e. refl) (cut_root h))) (rw x-is (tells_one R stop budget tally (root R) bare tells (omega (arith, less, tells.count)))))

  -- ---- whether it was for the budget

  stop_one : (b : Bool) → stop ≡ b → (l : Tally) → stop_at l ≡ cond stop 1 0 → stop_at l ≡ 1 → stop ≡ true
  stop_one true e l m q = e
  stop_one false e l m q = absurd (omega (arith, m ∙ ap (λ (x : Bool). cond x 1 0) e, q))

  pub came_whole : (l : Tally) (b x : Bool) → Came R stop budget l (root R) (visited_by R stop) b → Over l b x → x ≡ false → Holds R budget l (visited_by R stop)
  came_whole l false false (done t) goes z = record { count = t.count; best = t.best; within = t.within }
  came_whole l true true (over m q n) (alone a) z = absurd (true≢false z)
  came_whole l true x (over m q n) (told a y e) z = absurd (true≢false (sym (e ∙ eq-eqb (energy_at l) 4294967295 (n (stop_one stop refl l m a))) ∙ z))
  came_whole l true true (ended m e q h) (alone a) z = absurd (true≢false z)
  came_whole l true x (ended m e q h) (told a y is) z = h
  came_whole l false true _ x7 z = elim x7 [ ]

  pub came_spent : (l : Tally) (b x : Bool) → Came R stop budget l (root R) (visited_by R stop) b → Over l b x → x ≡ true → budget < (visited_by R stop).count
  came_spent l false false (done t) goes z = absurd (true≢false (sym z))
  came_spent l true true (over m q n) (alone a) z = q
  came_spent l true x (over m q n) (told a y e) z = q
  came_spent l true true (ended m e q h) (alone a) z = absurd (a (m ∙ ap (λ (b : Bool). cond b 1 0) e))
  came_spent l true x (ended m e q h) (told a y is) z = absurd (true≢false (sym z ∙ is ∙ ne_eqb (energy_at l) 4294967295 (λ k. omega (arith, k, q))))
  came_spent l false true _ x7 z = elim x7 [ ]

-- ---- what is read off the tally in the end

module _ (R : Recorder) (budget : ℕ) (l : Tally) (st : Visited) (holds : Holds R budget l st) where
  none_or : (o : Option (List ℕ)) → Bests R l o → energy_at l ≡ 4294967295 → o ≡ none
  unfolding Bests
  none_or none b e = refl
  none_or (some s) b e = absurd (omega (arith, b.1, e))

  pub best_none : energy_at l ≡ 4294967295 → st.best ≡ none
  best_none e = none_or st.best holds.best e

  -- The best, its energy and its starts.
  pub record Holding : Type 0 where
    pub starts : List ℕ
    pub best : st.best ≡ some starts
    pub energy : energy_at l ≡ plan_energy R starts
    pub long : length starts ≡ jobs R
    pub same : (j : ℕ) → j < jobs R → best_at l j ≡ get_or starts j 0
    pub feasible : Feasible R starts

  holding_of : (o : Option (List ℕ)) → st.best ≡ o → Bests R l o → (energy_at l ≡ 4294967295 → ⊥) → Holding
  unfolding Bests
  holding_of none e b ne = absurd (ne b)
  holding_of (some s) e b ne = record { starts = s; best = e; energy = b.0; long = b.2; same = b.3; feasible = b.4 }

  pub best_held : (energy_at l ≡ 4294967295 → ⊥) → Holding
  best_held ne = holding_of st.best refl holds.best ne

  module _ (h : Holding) where
    pub starts_are : up_to (best_at l) (jobs R) ≡ h.starts
    starts_are = up_to_whole (best_at l) h.starts 0 (jobs R) h.long h.same

    -- They fit their type: they are feasible.
    pub starts_fit : Valid R → (j : ℕ) → j < jobs R → best_at l j < 65536
    starts_fit valid j b = omega (arith, h.same j b, h.feasible.in_time j b, valid.ends j b, valid.few_ticks)
