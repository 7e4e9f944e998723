-- The schedule read off: each step leaves the first of the least in reach, and the last one is it.
use mathlib.Core.Path.{◌≡◌, refl, sym, ap, ◌∙◌, subst}
use mathlib.Core.List.{List, [], ◌∷◌}
use mathlib.Core.Option.{Option, none, some}
use Prim.Native.Nat.{ℕ, zero, suc, ◌+◌, ◌-◌, ◌*◌, ◌^◌, ◌≤◌, ◌<◌}
use native.Mathlib.Omega.{arith}
use lib.ListN.{set, take, replicate, length-set, length-replicate}
use Rattle.schedule.specs.declared.Recorder.{Recorder}
use Rattle.schedule.specs.Quantities.{jobs, deadline, run, Valid}
use Rattle.schedule.specs.Listing.{Place, place, FirstLeast}
use Rattle.schedule.specs.Visiting.{Vertex, root, child, starts_of, plan_energy, written}
use Rattle.schedule.proofs.Tree.{Reached, in_starts, root_reached, written_snoc}
use Rattle.latest.specs.inside.Latest.{latest_of}
use Rattle.latest.specs.inside.Sparing.{set_of}
use Rattle.latest.proofs.Feasibility.{latest_feasible}
use Rattle.value.specs.inside.Options.{Answers}
use Rattle.value.specs.inside.Leasts.{least_of, FirstChild}
use Rattle.value.proofs.Lesser.{most_some}
use Rattle.value.proofs.Reading.{settles_root, settles_child, settles_end, root_nothing}
use Rattle.value.proofs.Steps.{child_goal, least_most}
use Rattle.extras.specs.inside.Tabled.{Tabled}
use Rattle.least.specs.inside.Shown.{leads_by, Placed, Shows, ShownAt}
use Rattle.least.specs.Effort.{most_of, most_vertices}
use Rattle.least.specs.inside.Outcome.{Offers, Small}
use Rattle.least.specs.inside.Readings.{Reads}
use Rattle.vertex.proofs.Roots.{set_all}
use Rattle.vertex.proofs.Showing.{leads_shown, set_none, set_some}
use Rattle.least.proofs.Counting.{most_children}
use Rattle.least.proofs.Going.{child_shows}

-- ---- the starts

take_set : (n : ℕ) (l : List ℕ) (i a : ℕ) → take n (set l i a) ≡ set (take n l) i a
take_set zero l i a = refl
take_set (suc n) [] i a = refl
take_set (suc n) (x ∷ l) zero a = refl
take_set (suc n) (x ∷ l) (suc i) a = ap (λ (r : List ℕ). x ∷ r) (take_set n l i a)

take_written : (n : ℕ) (r : List Place) (s : List ℕ) → take n (written r s) ≡ written r (take n s)
unfolding written
take_written n [] s = refl
take_written n (p ∷ r) s = take_written n r (set s p.job p.start) ∙ ap (written r) (take_set n s p.job p.start)

take_same : (n k : ℕ) → n ≤ k → take {A = ℕ} n (replicate k 0) ≡ replicate n 0
take_same zero k l = refl
take_same (suc n) zero l = absurd (omega arith)
take_same (suc n) (suc k) l = ap (λ (r : List ℕ). 0 ∷ r) (take_same n k (omega arith))

-- ---- one step

module _ (R : Recorder) (l s : List ℕ) (a time goal e : ℕ) (h : Reads R l s a time goal e) where
  pub reads_held : ShownAt R l a time
  reads_held = record { left = h.left; vertex = h.vertex; shows = h.shows; time = h.time_is }

  pub reads_small : (ex : List ℕ) → Tabled R ex → goal ≤ 2147450880
  reads_small ex tabled = least_most R h.valid tabled.narrow h.left h.vertex h.shows.reached goal h.goal_is

  module _ (q : 0 < a) where
    m : ℕ
    m = (set_some R h.valid l a h.left h.vertex h.shows q).0

    left_is : h.left ≡ suc m
    unfolding m
    left_is = (set_some R h.valid l a h.left h.vertex h.shows q).1

    shows : Shows R l a (suc m) h.vertex
    shows = subst (λ (n : ℕ). Shows R l a n h.vertex) left_is h.shows

    goal_is : least_of R (suc m) h.vertex ≡ some goal
    goal_is = subst (λ (n : ℕ). least_of R n h.vertex ≡ some goal) left_is h.goal_is

    room : jobs R * (R.horizon * most_of R m 0) ≤ most_of R (jobs R) 0
    room = most_children R m (omega (arith, left_is, h.few))

    all_room : e + suc m * most_of R (jobs R) 0 ≤ most_vertices R
    all_room = subst (λ (n : ℕ). e + n * most_of R (jobs R) 0 ≤ most_vertices R) left_is h.room

    pub next_stopped :
        (budget : ℕ)
        → ((n : ℕ) (u : Vertex) → Shows R l a (suc n) u → u.time ≡ time → least_of R (suc n) u ≡ some goal → budget < e + jobs R * (R.horizon * most_of R n 0))
        → budget < most_vertices R
    next_stopped budget turn = omega (arith, room, all_room, turn m h.vertex shows h.time_is goal_is)

    module _ (f j x : ℕ)
        (turn : (n : ℕ) (u : Vertex) → Shows R l a (suc n) u → u.time ≡ time → least_of R (suc n) u ≡ some goal
        → (f ≤ e + jobs R * (R.horizon * most_of R n 0)) × FirstChild R n u j x) where
      came : (f ≤ e + jobs R * (R.horizon * most_of R m 0)) × FirstChild R m h.vertex j x
      came = turn m h.vertex shows h.time_is goal_is

      first : FirstChild R m h.vertex j x
      first = came.1

      fits : (x + run R j ≤ deadline R j) × (x ≤ 4096)
      fits =
          let r = in_starts R h.vertex.time j x first.start in
          let known = shows.reached.known j first.job in
          (r.1, omega (arith, r.1, h.valid.ends j known, h.valid.few_ticks))

      pub next_offers : Offers R l a j x
      next_offers =
          record {
            left = m;
            vertex = h.vertex;
            shows = shows;
            job = first.job;
            early = (in_starts R h.vertex.time j x first.start).0;
            late = fits.0;
          }

      pub next_lead : leads_by R l j x ≤ goal
      next_lead = subst (λ (n : ℕ). n ≤ goal) (sym (leads_shown R h.valid l a (suc m) h.vertex shows j x)) (child_goal R m h.vertex goal goal_is j x first).0

      pub next_reads :
          (w : List ℕ) → Placed R l w j x → (p end less : ℕ) → p ≡ 2 ^ j → end ≡ x + run R j → less ≡ goal - leads_by R l j x → (y : ℕ) → y ≡ x
          → Reads R w (set s j y) (a - p) end less f
      next_reads w placed p end less p-is end_is less-is y y-is =
          let g = child_goal R m h.vertex goal goal_is j x first in
          let early = (in_starts R h.vertex.time j x first.start).0 in
          record {
            left = m;
            vertex = child R h.vertex j x;
            shows = child_shows R h.valid l a j x next_offers p end p-is end_is w placed m h.vertex shows (omega (arith, early));
            time_is = sym end_is;
            goal_is = g.1 ∙ ap (λ (n : ℕ). some (goal - n)) (sym (leads_shown R h.valid l a (suc m) h.vertex shows j x)) ∙ ap some (sym less-is);
            few = omega (arith, left_is, h.few);
            valid = h.valid;
            settles = settles_child R h.valid m h.vertex shows.reached j x first h.settles;
            long = length-set s j y ∙ h.long;
            starts_are = ap (λ (n : ℕ). set s j n) y-is ∙ ap (λ (r : List ℕ). set r j x) h.starts_are ∙ sym (written_snoc h.vertex.placed (place j x) (replicate 16 0));
            room = omega (arith, room, all_room, came.0);
          }

  -- ---- the end

  pub reads_end : a ≡ 0 → FirstLeast R (take (jobs R) s) (plan_energy R (take (jobs R) s))
  reads_end z =
      let none_left = set_none R h.valid l a h.left h.vertex h.shows z in
      let w : starts_of R h.vertex ≡ take (jobs R) s =
      sym (ap (take (jobs R)) h.starts_are ∙ take_written (jobs R) h.vertex.placed (replicate 16 0)
      ∙ ap (written h.vertex.placed) (take_same (jobs R) 16 h.valid.few_jobs)) in
      subst (λ (t : List ℕ). FirstLeast R t (plan_energy R t)) w
      (settles_end R h.valid h.vertex (subst (λ (n : ℕ). Reached R n h.vertex) none_left h.shows.reached) h.settles)

-- ---- the root

pub root_held : (R : Recorder) (l : List ℕ) → Shows R l (set_of (root R).unplaced) (jobs R) (root R) → (a : ℕ) → a ≡ 2 ^ jobs R - 1 → Shows R l a (jobs R) (root R)
root_held R l h a e = subst (λ (n : ℕ). Shows R l n (jobs R) (root R)) (set_all R ∙ sym e) h

module _ (R : Recorder) (ex : List ℕ) (tabled : Tabled R ex) (able : 0 < latest_of R (2 ^ jobs R - 1)) where
  valid : Valid R
  valid = tabled.valid

  root_some : (o : Option ℕ) → least_of R (jobs R) (root R) ≡ o → (y : ℕ) × (least_of R (jobs R) (root R) ≡ some y)
  root_some none e = let s = latest_feasible R valid able in absurd (root_nothing R valid e s.0 s.1)
  root_some (some y) e = (y, e)

  root_exact : (x : ℕ) → Answers 2147483647 (least_of R (jobs R) (root R)) x → least_of R (jobs R) (root R) ≡ some x
  root_exact x w =
      let r = root_some (least_of R (jobs R) (root R)) refl in
      let small = least_most R valid tabled.narrow (jobs R) (root R) (root_reached R valid) r.0 r.1 in
      w.exact (omega (arith, most_some x r.0 (least_of R (jobs R) (root R)) r.1 w.low))

  module _ (l : List ℕ) (shows : Shows R l (set_of (root R).unplaced) (jobs R) (root R)) where
    pub root_stopped : (budget : ℕ) → budget < 0 + most_of R (jobs R) 0 → budget < most_vertices R
    unfolding most_vertices
    root_stopped budget b = omega arith

    pub root_reads :
        (f x : ℕ) → (f ≤ 0 + most_of R (jobs R) 0) × Small (Answers 2147483647 (least_of R (jobs R) (root R))) x → (a : ℕ) → a ≡ 2 ^ jobs R - 1
        → Reads R l (replicate 16 0) a 0 x f
    unfolding most_vertices written
    root_reads f x came a a-is =
        record {
          left = jobs R;
          vertex = root R;
          shows = root_held R l shows a a-is;
          time_is = refl;
          goal_is = root_exact x came.1.1;
          few = omega arith;
          valid = valid;
          settles = settles_root R valid;
          long = length-replicate {A = ℕ} 16 0;
          starts_are = refl;
          room = omega (arith, came.0);
        }
