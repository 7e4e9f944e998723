-- What the promise says case by case, with all that holds in each; and that this is what it says, there and back.
use mathlib.Core.List.{List, ◌++◌}
use Prim.Native.Nat.{ℕ, ◌≤◌, ◌<◌}
use native.Mathlib.Omega.{arith}
use lib.ListN.{length, drop}
use Rattle.schedule.specs.declared.Recorder.{Recorder}
use Rattle.schedule.specs.Quantities.{jobs}
use Rattle.schedule.specs.Listing.{Feasible}
use Rattle.planner.specs.declared.Answer.{Answer}
use Rattle.planner.specs.Promises.{success, refusal, stops, passes, gives_such}
use Rattle.planner.proofs.Refusing.{unless_enough, unless_some}
use Rattle.possible.specs.TillFound.{First}
use Rattle.first.specs.Promises.{FirstOf}

pub data FirstCases (lent : List ℕ) (R : Recorder) : Answer → List ℕ → Type 0 where
  short : length lent < jobs R → FirstCases lent R (refusal 15) lent
  none : jobs R ≤ length lent → ((s : List ℕ) → Feasible R s → ⊥) → FirstCases lent R (refusal 19) lent
  found : {s : List ℕ} → jobs R ≤ length lent → First R s → FirstCases lent R (success R.horizon 0 0) (s ++ drop (jobs R) lent)

module _ (lent : List ℕ) (R : Recorder) where
  pub first_cases : {a : Answer} {l : List ℕ} → FirstOf lent R a l → FirstCases lent R a l
  first_cases (stops h) = FirstCases.short h
  first_cases (passes h (stops n)) = FirstCases.none (omega arith) n
  first_cases (passes h (passes n (gives_such f))) = FirstCases.found (omega arith) f

  pub cases_first : {a : Answer} {l : List ℕ} → FirstCases lent R a l → FirstOf lent R a l
  cases_first (FirstCases.short h) = stops h
  cases_first (FirstCases.none h n) = unless_enough h (stops n)
  cases_first (FirstCases.found h f) = unless_enough h (unless_some f.feasible (gives_such f))
