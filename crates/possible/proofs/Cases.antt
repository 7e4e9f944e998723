-- What the promise says case by case, with all that holds in each; and that this is what it says, there and back.
use mathlib.Core.List.{List, ◌++◌}
use Prim.Native.Nat.{ℕ, ◌≤◌, ◌<◌}
use native.Mathlib.Omega.{arith}
use lib.ListN.{length, drop}
use Rattle.schedule.specs.declared.Recorder.{Recorder}
use Rattle.schedule.specs.Quantities.{jobs}
use Rattle.schedule.specs.Listing.{Feasible}
use Rattle.planner.specs.declared.Answer.{Answer}
use Rattle.planner.specs.Promises.{success, refusal, refusal_after, stops, passes, gives_such}
use Rattle.planner.proofs.Refusing.{unless_enough, unless_some}
use Rattle.possible.specs.TillFound.{First, vertices_till_found}
use Rattle.possible.specs.Promises.{PossibleOf}

pub data PossibleCases (budget : ℕ) (lent : List ℕ) (R : Recorder) : Answer → List ℕ → Type 0 where
  short : length lent < jobs R → PossibleCases budget lent R (refusal 15) lent
  over : jobs R ≤ length lent → budget < vertices_till_found R → PossibleCases budget lent R (refusal_after 20 budget) lent
  none : jobs R ≤ length lent → vertices_till_found R ≤ budget → ((s : List ℕ) → Feasible R s → ⊥)
      → PossibleCases budget lent R (refusal_after 19 (vertices_till_found R)) lent
  found : {s : List ℕ} → jobs R ≤ length lent → vertices_till_found R ≤ budget → First R s
      → PossibleCases budget lent R (success R.horizon 0 (vertices_till_found R)) (s ++ drop (jobs R) lent)

module _ (budget : ℕ) (lent : List ℕ) (R : Recorder) where
  pub possible_cases : {a : Answer} {l : List ℕ} → PossibleOf budget lent R a l → PossibleCases budget lent R a l
  possible_cases (stops h) = PossibleCases.short h
  possible_cases (passes h (stops o)) = PossibleCases.over (omega arith) o
  possible_cases (passes h (passes o (stops n))) = PossibleCases.none (omega arith) (omega arith) n
  possible_cases (passes h (passes o (passes n (gives_such f)))) = PossibleCases.found (omega arith) (omega arith) f

  pub cases_possible : {a : Answer} {l : List ℕ} → PossibleCases budget lent R a l → PossibleOf budget lent R a l
  cases_possible (PossibleCases.short h) = stops h
  cases_possible (PossibleCases.over h o) = unless_enough h (stops o)
  cases_possible (PossibleCases.none h o n) = unless_enough h (unless_enough o (stops n))
  cases_possible (PossibleCases.found h o f) = unless_enough h (unless_enough o (unless_some f.feasible (gives_such f)))
