-- One child: what is asked before it is visited, what it comes to where a cut drops it, and what entering it comes to.
use mathlib.Core.Path.{◌≡◌, refl, sym, ap, ◌∙◌, subst}
use mathlib.Core.Bool.{Bool, true, false}
use mathlib.Core.List.{List}
use mathlib.Core.Logic.{◌⊎◌, inl, inr, ⊎_elim}
use Prim.Native.Nat.{ℕ, suc, ◌+◌, ◌-◌, ◌^◌, ◌≤◌, ◌<◌, max, min}
use native.Mathlib.Omega.{arith}
use lib.Dec.{eqb, ltb}
use lib.ListN.{length}
use lib.Pow.{pow_pos}
use borrow.Author.Tests.{lt-ltb, le-ltb}
use Rattle.base.specs.Lists.{In, remove, up_from}
use Rattle.base.specs.Loops.{through}
use Rattle.base.specs.Sums.{total}
use Rattle.base.proofs.Numbers.{length_nil, total_remove}
use Rattle.schedule.specs.declared.Recorder.{Recorder}
use Rattle.schedule.specs.Quantities.{Valid, jobs, release, run, deadline, device}
use Rattle.schedule.specs.Visiting.{Vertex, Visited, child, earliest, starts_of, cut_a, counted, floor, plan_energy, choices}
use Rattle.schedule.proofs.Tree.{Reached, child_reached}
use Rattle.latest.specs.inside.Sets.{has, size_of}
use Rattle.latest.specs.inside.Latest.{jobs_of}
use Rattle.latest.specs.inside.Sparing.{set_of}
use Rattle.latest.proofs.Members.{has_le, members_none, size_without}
use Rattle.latest.proofs.Spared.{reached_set, set_without}
use Rattle.keys.proofs.Rises.{floor_uncut, energy_complete}
use Rattle.vertex.specs.declared.dues.Dues.{Dues}
use Rattle.vertex.specs.inside.Lasts.{TwoLeast}
use Rattle.vertex.specs.inside.Shown.{load_at, leads_by, ends_by, Ordered, Placed, Shows}
use Rattle.vertex.specs.inside.Sums.{limit_for}
use Rattle.vertex.proofs.Lasting.{cut_limit}
use Rattle.vertex.proofs.Most.{floor_most, uncut_room}
use Rattle.vertex.proofs.Showing.{some_suc, ordered_later, shown_ordered, leads_shown, ends_shown, child_shown, job_in_lem, in_job}
use Rattle.recall.specs.inside.Slack.{more}
use Rattle.visit.specs.declared.tally.Tally.{Tally}
use Rattle.visit.specs.inside.Lent.{more_counted, noted, count_at, energy_at, stop_at, Bests, Tells, Came, done, over, Stands, Starts, Tries, Enters}
use Rattle.visit.specs.inside.Stops.{visit_by, entered}
use Rattle.visit.specs.inside.Offers.{Offered}
use Rattle.visit.proofs.Visits.{through_counts, visit_one, visit_dropped, visit_entered, cut_b_spared}
use Rattle.visit.proofs.Telling.{tells_none, tells_one, tells_noted, came_back, came_offered}

-- From the start `cut` on every child is dropped: from x on by cut A, and before it by cut B.
abbrev pub Cuts : Recorder → List ℕ → ℕ → ℕ → ℕ → ℕ → ℕ → Type 0
Cuts R l best from j x cut = (t : ℕ) → cut ≤ t → t + run R j ≤ deadline R j → (x ≤ t) ⊎ (best ≤ from + leads_by R l j t)

module _ (R : Recorder) (valid : Valid R) (narrow : (k : ℕ) → k < R.devices.count → (device R k).pw ≤ 65535) where
  -- ---- a start of a job

  module _ (m : ℕ) (v : Vertex) (j s : ℕ) (o : Starts R v j s) (h : Reached R (suc m) v) where
    pub starts_known : (j < jobs R) × (j < 16)
    starts_known = let k = h.known j o.job in (k, omega (arith, k, valid.few_jobs))

    pub starts_end : s + run R j ≤ R.horizon
    starts_end = omega (arith, o.late, valid.ends j starts_known.0)

    pub starts_reached : Reached R m (child R v j s)
    starts_reached = child_reached R valid m v h j s o.job (o.early, o.late)

  pub starts_ordered : (l : List ℕ) (a m : ℕ) (v : Vertex) (j s : ℕ) → Shows R l a (suc m) v → Starts R v j s → Ordered R l s
  starts_ordered l a m v j s h o =
      ordered_later R valid l v.time s (shown_ordered R valid l a (suc m) v h) (omega (arith, o.early)) (omega (arith, starts_end m v j s o h.reached))

  pub starts_of_lem :
      (l : List ℕ) (a from m : ℕ) (v : Vertex) (time j c d s₀ s : ℕ) → Stands R l a from m v → v.time ≡ time → j < jobs R → has a j ≡ true
      → s₀ ≡ max time (release R j) → s₀ ≤ s → c ≡ run R j → d ≡ deadline R j → s + c ≤ d → Starts R v j s
  starts_of_lem l a from m v time j c d s₀ s stands t known one s-is low c-is d-is fits =
      record {
        job = job_in_lem R valid l a (suc m) v stands.shows j known one;
        early = omega (arith, t, s-is, low);
        late = omega (arith, fits, c-is, d-is);
      }

  -- ---- what is asked of a child

  pub cuts_less : (l : List ℕ) (best best' from j x cut : ℕ) → best' ≤ best → Cuts R l best from j x cut → Cuts R l best' from j x cut
  cuts_less l best best' from j x cut less h t a b = ⊎_elim inl (λ q. inr (omega (arith, q, less))) (h t a b)

  -- What `cut_at` answers.
  pub cuts_at :
      (l : List ℕ) (best from j x cut s y : ℕ) → j < jobs R → Cuts R l best from j x cut → s < cut → cut ≤ x
      → (y ≡ cut) ⊎ ((y ≡ s) × ((t : ℕ) → s ≤ t → t ≤ R.horizon → best ≤ from + leads_by R l j t)) → Cuts R l best from j x y × (y ≤ x)
  cuts_at l best from j x cut s y known h at below =
      ⊎_elim (λ (e : y ≡ cut). (subst (Cuts R l best from j x) (sym e) h, omega (arith, e, below)))
      (λ w. (λ t a b. inr (w.1 t (omega (arith, w.0, a)) (omega (arith, b, valid.ends j known))), omega (arith, w.0, at, below)))

  module _ (l : List ℕ) (a from m : ℕ) (v : Vertex) (stands : Stands R l a from m v) where
    abbrev h : Shows R l a (suc m) v
    h = stands.shows

    pub from_small : from ≤ 2147450880
    from_small = omega (arith, stands.floor_is, floor_most R valid narrow (suc m) v h.reached stands.spared)

    pub load_room : load_at l ≤ R.horizon
    load_room = omega (arith, h.load, uncut_room R valid narrow v stands.spared)

    module _ (j : ℕ) (i : In j v.unplaced) (d : Dues) (two : TwoLeast R a (jobs R) d) (x : ℕ) (x-is : x ≡ min (limit_for R.horizon (load_at l - run R j) d j) (deadline R j) + 1 - run R j) where
      others : load_at l - run R j ≡ total (run R) (remove j v.unplaced)
      others = omega (arith, h.load, total_remove (run R) j v.unplaced i)

      cut_is : (s : ℕ) → s + run R j ≤ R.horizon → cut_a R (child R v j s) ≡ ltb (limit_for R.horizon (load_at l - run R j) d j) (s + run R j)
      cut_is s by =
          cut_limit R valid a m v h.reached d two j i (in_job R valid l a (suc m) v h) (job_in_lem R valid l a (suc m) v h) (load_at l - run R j) s others
          (omega (arith, load_room)) by

      cut_late : (s : ℕ) → s + run R j ≤ R.horizon → s + run R j ≤ deadline R j → x ≤ s → cut_a R (child R v j s) ≡ true
      cut_late s by due late = cut_is s by ∙ lt-ltb (limit_for R.horizon (load_at l - run R j) d j) (s + run R j) (omega (arith, x-is, late, due))

      cut_early : (s : ℕ) → s + run R j ≤ R.horizon → s < x → cut_a R (child R v j s) ≡ false
      cut_early s by early = cut_is s by ∙ le-ltb (limit_for R.horizon (load_at l - run R j) d j) (s + run R j) (omega (arith, x-is, early))

      module _ (s : ℕ) (o : Starts R v j s) where
        by : s + run R j ≤ R.horizon
        by = starts_end m v j s o h.reached

        floor_child_is : cut_a R (child R v j s) ≡ false → floor R (child R v j s) ≡ from + leads_by R l j s
        floor_child_is q =
            let f = floor_uncut R valid (suc m) v h.reached j s o.job (omega (arith, o.early)) q in
            omega (arith, f, stands.floor_is, leads_shown R valid l a (suc m) v h j s)

        cut_or_floor : (best : ℕ) → best ≤ from + leads_by R l j s → (c : Bool) → cut_a R (child R v j s) ≡ c → (cut_a R (child R v j s) ≡ true) ⊎ (best ≤ floor R (child R v j s))
        cut_or_floor best low true q = inl q
        cut_or_floor best low false q = inr (omega (arith, low, floor_child_is q))

        pub dropped_of : (best cut : ℕ) → Cuts R l best from j x cut → cut ≤ s → (cut_a R (child R v j s) ≡ true) ⊎ (best ≤ floor R (child R v j s))
        dropped_of best cut cuts q =
            ⊎_elim (λ late. inl (cut_late s by o.late late)) (λ low. cut_or_floor best low (cut_a R (child R v j s)) refl) (cuts s q o.late)

        pub tries_of : (best cut f : ℕ) → Cuts R l best from j x cut → cut ≤ x → f ≡ from + leads_by R l j s → Tries R l best a from cut f j s m v
        tries_of best cut f cuts below f-is =
            record {
              stands = stands;
              starts = o;
              dropped = dropped_of best cut cuts;
              spared = λ q. let e = cut_early s by (omega (arith, q, below)) in (e, floor_child_is e ∙ sym f-is);
            }

      -- Where all from the start s on are dropped, they are merely counted.
      pub starts_dropped :
          (stop : Bool) (budget cut s : ℕ) (tally : Tally) (st : Visited) → Cuts R l (energy_at tally) from j x cut → cut ≤ s → earliest R v.time j ≤ s
          → Tells R stop budget tally v st
          → through (λ (y : ℕ). visit_by R stop m (child R v j y)) (up_from s (suc (deadline R j) - (s + run R j))) st ≡ more (suc (deadline R j) - (s + run R j)) st
      starts_dropped stop budget cut s tally st cuts q early tells =
          through_counts (λ (y : ℕ). visit_by R stop m (child R v j y)) st.best s (suc (deadline R j) - (s + run R j)) st refl
          (λ t w low high e.
          let o : Starts R v j t = record { job = i; early = omega (arith, early, low); late = omega (arith, high) } in
          visit_dropped R stop valid narrow m (child R v j t) (starts_reached m v j t o h.reached) tally w (λ z. e ∙ tells.going z) (subst (Bests R tally) (sym e) tells.best)
          (dropped_of t o (energy_at tally) cut cuts (omega (arith, q, low))))

  -- ---- the visit of it

  module _ (stop : Bool) (budget : ℕ) (l : List ℕ) (a from cut f j s m : ℕ) (v : Vertex) (st : Visited) (tally : Tally) (t : Tries R l (energy_at tally) a from cut f j s m v) (tells : Tells R stop budget tally v st) where
    w : Vertex
    w = child R v j s

    reached : Reached R m w
    unfolding w
    reached = starts_reached m v j s t.starts t.stands.shows.reached

    pub visit_over : count_at tally ≡ budget → Came R stop budget tally v (visit_by R stop m (child R v j s) st) true
    visit_over e = over tells.stops (omega (arith, e, tells.count, visit_one R stop m (child R v j s) st tells.going)) (tells_none R stop budget tally v st tells)

    module _ (less : count_at tally < budget) (x : Tally) (x-is : x ≡ more_counted 1 tally) where
      pub tells_more : Tells R stop budget x v (counted st)
      tells_more = rw x-is (tells_one R stop budget tally v st tells less)

      pub visit_drops : (cut_a R (child R v j s) ≡ true) ⊎ (energy_at tally ≤ floor R (child R v j s)) → Came R stop budget x v (visit_by R stop m (child R v j s) st) false
      unfolding w
      visit_drops q = done (subst (Tells R stop budget x v) (sym (visit_dropped R stop valid narrow m (child R v j s) reached tally st tells.going tells.best q)) tells_more)

    pub visit_enters : s < cut → f < energy_at tally → (x : Tally) (b : Bool) → Came R stop budget x v (entered R stop m (child R v j s) (counted st)) b → Came R stop budget x v (visit_by R stop m (child R v j s) st) b
    visit_enters early low x b c =
        let q = t.spared early in
        subst (λ (z : Visited). Came R stop budget x v z b)
        (sym (visit_entered R stop m (child R v j s) st tells.going q.0 (cut_b_spared R stop (child R v j s) st.best tally tells.best (omega (arith, q.1, low))))) c

  pub bit_room : (l : List ℕ) (a m : ℕ) (v : Vertex) (j p : ℕ) → Shows R l a (suc m) v → In j v.unplaced → p ≡ 2 ^ j → (1 ≤ p) × (p ≤ a)
  bit_room l a m v j p h i e = (omega (arith, e, pow_pos j), omega (arith, e, has_le a j (in_job R valid l a (suc m) v h j i).1))

  -- Without it the set has one job fewer.
  pub size_room : (l : List ℕ) (a m : ℕ) (v : Vertex) (j p : ℕ) → Shows R l a (suc m) v → In j v.unplaced → p ≡ 2 ^ j → size_of a ≡ suc (size_of (a - p))
  size_room l a m v j p h i e =
      let q = in_job R valid l a (suc m) v h j i in
      rw e (size_without a j (omega (arith, q.0, valid.few_jobs)) q.1)

  pub enters_of : (l : List ℕ) (best a from cut f j s m p : ℕ) (v : Vertex) → Tries R l best a from cut f j s m v → p ≡ 2 ^ j → s < cut → Enters R l (a - p) f j s m v
  enters_of l best a from cut f j s m p v t e early =
      let q = t.spared early in
      let k = bit_room l a m v j p t.stands.shows t.starts.job e in
      let same : a ≡ a - p + 2 ^ j = omega (arith, e, k.1) in
      record {
        shows = subst (λ (n : ℕ). Shows R l n (suc m) v) same t.stands.shows;
        starts = t.starts;
        spared = q.0;
        floor_is = q.1;
      }

  -- ---- entering it

  module _ (stop : Bool) (budget : ℕ) (l : List ℕ) (left f j s m : ℕ) (v : Vertex) (t : Enters R l left f j s m v) where
    set_left : set_of (child R v j s).unplaced ≡ left
    set_left = let e = set_without j v.unplaced t.starts.job in omega (arith, e, t.shows.set)

    reached_child : Reached R m (child R v j s)
    reached_child = starts_reached m v j s t.starts t.shows.reached

    pub left_none : left ≡ 0 → m ≡ 0
    left_none e =
        sym reached_child.size
        ∙ ap length (sym (reached_set R valid m (child R v j s) reached_child).1 ∙ ap (jobs_of R) (set_left ∙ e) ∙ members_none 0 (jobs R))

    pub left_some : (left ≡ 0 → ⊥) → (n : ℕ) × (m ≡ suc n)
    left_some ne =
        some_suc m (λ z.
        let none : set_of (child R v j s).unplaced ≡ 0 = ap (λ (u : List ℕ). set_of u) (length_nil (child R v j s).unplaced (reached_child.size ∙ z)) in
        ne (sym set_left ∙ none))

    pub enters_small : f ≤ 2147450880
    enters_small = omega (arith, t.floor_is, floor_most R valid narrow m (child R v j s) reached_child t.spared)

    module _ (tally : Tally) (st : Visited) (tells : Tells R stop budget tally v st) where
      pub enters_noted : (x : Tally) → x ≡ noted j s tally → Tells R stop budget x (child R v j s) st
      enters_noted x e = rw e (tells_noted R stop budget v j s t.starts.job tally st (starts_known m v j s t.starts t.shows.reached).1 tells)

    pub enters_complete :
        left ≡ 0 → (x y : Tally) (e : ℕ) (st : Visited) → Tells R stop budget x (child R v j s) st → e ≡ f + ends_by R l j s → e < 4294967295 → Offered e x y
        → (b : Bool) → b ≡ eqb (stop_at y) 1 → Came R stop budget y v (entered R stop m (child R v j s) st) b
    enters_complete z x y e st tells e-is small o b b-is =
        let n = left_none z in
        let r : Reached R 0 (child R v j s) = subst (λ (k : ℕ). Reached R k (child R v j s)) n reached_child in
        let energy = energy_complete R valid (child R v j s) r in
        let is : e ≡ plan_energy R (starts_of R (child R v j s)) = omega (arith, e-is, t.floor_is, energy, ends_shown R valid l (suc m) (left + 2 ^ j) v t.shows j s) in
        came_back R stop budget v j s t.starts.job y (entered R stop m (child R v j s) st) b
        (subst (λ (k : ℕ). Came R stop budget y (child R v j s) (entered R stop k (child R v j s) st) b) (sym n)
        (came_offered R stop budget (child R v j s) r valid x y e st is small o b b-is tells))

    module _ (w : List ℕ) (placed : Placed R l w j s) where
      pub stands_child : (n : ℕ) → m ≡ suc n → Stands R w left f n (child R v j s)
      stands_child n e =
          let same : left + 2 ^ j - 2 ^ j ≡ left = omega arith in
          let shows = child_shown R valid l (left + 2 ^ j) m v t.shows j s t.starts.job t.starts.early t.starts.late w placed in
          record {
            shows = subst (λ (k : ℕ). Shows R w k (suc n) (child R v j s)) same (subst (λ (k : ℕ). Shows R w (left + 2 ^ j - 2 ^ j) k (child R v j s)) e shows);
            floor_is = t.floor_is;
            spared = t.spared;
          }

    pub enters_came : (n : ℕ) → m ≡ suc n → (x : Tally) (st : Visited) (b : Bool) → Came R stop budget x (child R v j s) (choices R (visit_by R stop n) (child R v j s) st) b
        → Came R stop budget x v (entered R stop m (child R v j s) st) b
    unfolding entered
    enters_came n e x st b c =
        subst (λ (k : ℕ). Came R stop budget x v (entered R stop k (child R v j s) st) b) (sym e)
        (came_back R stop budget v j s t.starts.job x (choices R (visit_by R stop n) (child R v j s) st) b c)
