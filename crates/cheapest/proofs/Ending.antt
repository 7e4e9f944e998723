-- How `least_plan` ends: by the table of latest times, with the schedule that is read off, or by the search that counts.
use mathlib.Core.Path.{◌≡◌, refl}
use mathlib.Core.Bool.{true, false}
use mathlib.Core.List.{List, ◌++◌}
use mathlib.Core.Logic.{inr}
use Prim.Native.Nat.{ℕ, zero, suc, ◌-◌, ◌*◌, ◌^◌, ◌≤◌, ◌<◌}
use native.Mathlib.Omega.{arith}
use lib.Dec.{ltb}
use lib.ListN.{get_or, length, take, drop, length-take}
use lib.Pow.{pow_pos}
use borrow.Author.Tests.{ltb-true, ltb-false}
use Rattle.schedule.specs.declared.Recorder.{Recorder}
use Rattle.schedule.specs.Quantities.{jobs, Valid}
use Rattle.schedule.specs.Listing.{FirstLeast}
use Rattle.schedule.specs.Visiting.{plan_energy}
use Rattle.latest.specs.inside.Latest.{latest_of, Laid}
use Rattle.latest.proofs.Feasibility.{feasible_latest, latest_feasible}
use Rattle.planner.specs.declared.Answer.{Answer}
use Rattle.planner.specs.Promises.{success, refusal, refusal_after, stops, passes, found, SearchOf}
use Rattle.planner.proofs.Refusing.{unless_enough, unless_some}
use Rattle.least.specs.Effort.{most_of, most_vertices}
use Rattle.cheapest.specs.Promises as P
use Rattle.cheapest.specs.Promises.{LeastOf, CountedLeastOf, Sought}

-- Without jobs no vertex is entered.
none_entered : (R : Recorder) → most_of R 0 0 ≡ 0
unfolding most_of
none_entered R = refl

some_jobs : (R : Recorder) (n : ℕ) → 0 < suc n * most_of R n 0 → 0 < n
some_jobs R zero q = absurd (omega (arith, none_entered R))
some_jobs R (suc n) q = omega arith

most_some : (R : Recorder) → 0 < most_vertices R → 0 < jobs R
unfolding most_vertices
most_some R h = some_jobs R (jobs R) h

module _ (R : Recorder) (valid : Valid R) where
  -- ---- the table

  module _ (table : List ℕ) (laid : Laid R table) where
    -- What it holds for all jobs.
    all_jobs : get_or table (2 ^ jobs R - 1) 0 ≡ latest_of R (2 ^ jobs R - 1)
    all_jobs = laid.laid (2 ^ jobs R - 1) (omega (arith, pow_pos (jobs R)))

    pub is_possible : ltb 0 (get_or table (2 ^ jobs R - 1) 0) ≡ true → 0 < latest_of R (2 ^ jobs R - 1)
    is_possible q = omega (arith, ltb-true 0 (get_or table (2 ^ jobs R - 1) 0) q, all_jobs)

    pub is_none : (budget : ℕ) (lent : List ℕ) → jobs R ≤ length lent → ltb 0 (get_or table (2 ^ jobs R - 1) 0) ≡ false → LeastOf budget lent R (refusal 19) lent
    is_none budget lent room q =
        unless_enough room (stops (λ s f. omega (arith, ltb-false 0 (get_or table (2 ^ jobs R - 1) 0) q, all_jobs, feasible_latest R valid s f)))

    -- the same by the stronger promise
    pub counted_is_none : (budget : ℕ) (lent : List ℕ) → jobs R ≤ length lent → ltb 0 (get_or table (2 ^ jobs R - 1) 0) ≡ false → CountedLeastOf budget lent R (refusal 19) lent
    counted_is_none budget lent room q =
        unless_enough room (stops (λ s f. omega (arith, ltb-false 0 (get_or table (2 ^ jobs R - 1) 0) q, all_jobs, feasible_latest R valid s f)))

  -- ---- the search, which is given up only with a budget below all the vertices that can be needed

  module _ (budget : ℕ) (over : budget < most_vertices R) where
    pub is_over_lem : (lent : List ℕ) → jobs R ≤ length lent → 0 < latest_of R (2 ^ jobs R - 1) → LeastOf budget lent R (refusal_after 20 budget) lent
    is_over_lem lent room q = unless_enough room (unless_some (latest_feasible R valid q).1 (P.OverOrLeast.over over))

    -- and only where there are jobs.
    pub over_some : 0 < jobs R
    over_some = most_some R (omega (arith, over))

  -- ---- or read the starts l off

  module _ (l : List ℕ) (least : FirstLeast R (take (jobs R) l) (plan_energy R (take (jobs R) l))) where
    -- There are as many starts as jobs.
    pub read_room : jobs R ≤ length l
    read_room = omega (arith, least.feasible.one_each, length-take (jobs R) l)

    module _ (budget : ℕ) (lent : List ℕ) (room : jobs R ≤ length lent) (a : Answer) (after : List ℕ) (given : a ≡ success R.horizon (plan_energy R (take (jobs R) l)) 0)
        (wrote : after ≡ take (jobs R) l ++ drop (length (take (jobs R) l)) lent) where
      pub is_found : LeastOf budget lent R a after
      is_found = rw (given, wrote, least.feasible.one_each) (unless_enough room (unless_some least.feasible (P.OverOrLeast.least (found least))))

      pub counted_is_found : CountedLeastOf budget lent R a after
      counted_is_found = rw (given, wrote, least.feasible.one_each) (unless_enough room (unless_some least.feasible (P.CountedOrLeast.least (found least))))

  -- ---- the search that counts, where there is a plan

  module _ (budget : ℕ) (lent : List ℕ) (some : 0 < jobs R) (room : jobs R ≤ length lent) (possible : 0 < latest_of R (2 ^ jobs R - 1)) where
    pub counts_over : {a : Answer} {after : List ℕ} → SearchOf budget lent R a after → (a.number ≡ 0 → ⊥) → CountedLeastOf budget lent R a after × Sought a
    counts_over (stops h) n = absurd (omega arith)
    counts_over (passes h (stops o)) n = (unless_enough room (unless_some (latest_feasible R valid possible).1 (P.CountedOrLeast.over some o)), inr refl)
    counts_over (passes h (passes o (stops f))) n = let s = latest_feasible R valid possible in absurd (f s.0 s.1)
    counts_over (passes h (passes o (passes f (found g)))) n = absurd (n refl)

    pub counts_found : {a : Answer} {after : List ℕ} → SearchOf budget lent R a after → a.number ≡ 0 → CountedLeastOf budget lent R (success a.horizon a.energy 0) after
    counts_found (stops h) z = absurd (omega arith)
    counts_found (passes h (stops o)) z = absurd (omega arith)
    counts_found (passes h (passes o (stops f))) z = absurd (omega arith)
    counts_found (passes h (passes o (passes f (found g)))) z = unless_enough room (passes f (P.CountedOrLeast.least (found g)))
