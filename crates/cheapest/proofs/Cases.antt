-- What `least_plan` promises case by case, with all that holds in each; and that this is what it says of a valid recorder, there and back. And the same of what it promises
-- beyond that.
use mathlib.Core.Path.{◌≡◌, refl}
use mathlib.Core.Bool.{Bool, true, false}
use mathlib.Core.List.{List, ◌++◌}
use Prim.Native.Nat.{ℕ, ◌-◌, ◌^◌, ◌≤◌, ◌<◌}
use native.Mathlib.Omega.{arith}
use lib.Dec.{ltb}
use lib.ListN.{length, drop}
use borrow.Author.Tests.{ltb-true, ltb-false}
use Rattle.schedule.specs.declared.Recorder.{Recorder}
use Rattle.schedule.specs.Quantities.{jobs, Valid}
use Rattle.schedule.specs.Listing.{Feasible, FirstLeast}
use Rattle.schedule.specs.Visiting.{vertices}
use Rattle.latest.specs.inside.Latest.{latest_of}
use Rattle.latest.proofs.Feasibility.{feasible_latest, latest_feasible}
use Rattle.planner.specs.declared.Answer.{Answer}
use Rattle.planner.specs.Promises.{success, refusal, refusal_after, stops, passes}
use Rattle.planner.specs.Promises as Frame
use Rattle.planner.proofs.Refusing.{unless_enough, unless_some}
use Rattle.least.specs.Effort.{most_vertices}
use Rattle.cheapest.specs.Promises.{LeastOf, CountedLeastOf}
use Rattle.cheapest.specs.Promises as P

pub data LeastCases (budget : ℕ) (lent : List ℕ) (R : Recorder) : Answer → List ℕ → Type 0 where
  short : length lent < jobs R → LeastCases budget lent R (refusal 15) lent
  none : jobs R ≤ length lent → ((s : List ℕ) → Feasible R s → ⊥) → LeastCases budget lent R (refusal 19) lent
  over : {s : List ℕ} → jobs R ≤ length lent → Feasible R s → budget < most_vertices R → LeastCases budget lent R (refusal_after 20 budget) lent
  found : {s : List ℕ} {e : ℕ} → jobs R ≤ length lent → FirstLeast R s e → LeastCases budget lent R (success R.horizon e 0) (s ++ drop (jobs R) lent)

pub data CountedCases (budget : ℕ) (lent : List ℕ) (R : Recorder) : Answer → List ℕ → Type 0 where
  short : length lent < jobs R → CountedCases budget lent R (refusal 15) lent
  none : jobs R ≤ length lent → ((s : List ℕ) → Feasible R s → ⊥) → CountedCases budget lent R (refusal 19) lent
  over : {s : List ℕ} → jobs R ≤ length lent → Feasible R s → 0 < jobs R → budget < vertices R → CountedCases budget lent R (refusal_after 20 budget) lent
  found : {s : List ℕ} {e : ℕ} → jobs R ≤ length lent → FirstLeast R s e → CountedCases budget lent R (success R.horizon e 0) (s ++ drop (jobs R) lent)

-- Where it is not so that no schedule is feasible, one is.
feasible_some : (R : Recorder) → Valid R → (((s : List ℕ) → Feasible R s → ⊥) → ⊥) → (s : List ℕ) × Feasible R s
feasible_some R v n = go (ltb 0 (latest_of R (2 ^ jobs R - 1))) refl
  where
    go : (b : Bool) → ltb 0 (latest_of R (2 ^ jobs R - 1)) ≡ b → (s : List ℕ) × Feasible R s
    go true q = latest_feasible R v (ltb-true 0 (latest_of R (2 ^ jobs R - 1)) q)
    go false q = absurd (n (λ s f. omega (arith, ltb-false 0 (latest_of R (2 ^ jobs R - 1)) q, feasible_latest R v s f)))

module _ (budget : ℕ) (lent : List ℕ) (R : Recorder) where
  pub least_cases : Valid R → {a : Answer} {l : List ℕ} → LeastOf budget lent R a l → LeastCases budget lent R a l
  least_cases v (stops h) = LeastCases.short h
  least_cases v (passes h (stops n)) = LeastCases.none (omega arith) n
  least_cases v (passes h (passes n (P.OverOrLeast.over b))) = LeastCases.over (omega arith) (feasible_some R v n).1 b
  least_cases v (passes h (passes n (P.OverOrLeast.least (Frame.GivesLeast.found f)))) = LeastCases.found (omega arith) f

  pub cases_least : {a : Answer} {l : List ℕ} → LeastCases budget lent R a l → LeastOf budget lent R a l
  cases_least (LeastCases.short h) = stops h
  cases_least (LeastCases.none h n) = unless_enough h (stops n)
  cases_least (LeastCases.over h f b) = unless_enough h (unless_some f (P.OverOrLeast.over b))
  cases_least (LeastCases.found h f) = unless_enough h (unless_some f.feasible (P.OverOrLeast.least (Frame.GivesLeast.found f)))

  pub counted_least_cases : Valid R → {a : Answer} {l : List ℕ} → CountedLeastOf budget lent R a l → CountedCases budget lent R a l
  counted_least_cases v (stops h) = CountedCases.short h
  counted_least_cases v (passes h (stops n)) = CountedCases.none (omega arith) n
  counted_least_cases v (passes h (passes n (P.CountedOrLeast.over j b))) = CountedCases.over (omega arith) (feasible_some R v n).1 j b
  counted_least_cases v (passes h (passes n (P.CountedOrLeast.least (Frame.GivesLeast.found f)))) = CountedCases.found (omega arith) f

  pub counted_cases_least : {a : Answer} {l : List ℕ} → CountedCases budget lent R a l → CountedLeastOf budget lent R a l
  counted_cases_least (CountedCases.short h) = stops h
  counted_cases_least (CountedCases.none h n) = unless_enough h (stops n)
  counted_cases_least (CountedCases.over h f j b) = unless_enough h (unless_some f (P.CountedOrLeast.over j b))
  counted_cases_least (CountedCases.found h f) = unless_enough h (unless_some f.feasible (P.CountedOrLeast.least (Frame.GivesLeast.found f)))
