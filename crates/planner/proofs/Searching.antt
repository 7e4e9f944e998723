-- The search of a recorder, as crate visit gives it, is what `search` promises.
use mathlib.Core.List.{List}
use Prim.Native.Nat.{ℕ, ◌<◌}
use Rattle.std.specs.Prelude.{Result, Ok, Err}
use Rattle.schedule.specs.declared.Recorder.{Recorder}
use Rattle.schedule.specs.Quantities.{Valid}
use Rattle.schedule.specs.Visiting.{visited}
use Rattle.schedule.proofs.Outcome.{visited_first, visited_none}
use Rattle.visit.specs.declared.Found.{Found}
use Rattle.visit.specs.declared.Unfound.{Unfound}
use Rattle.visit.specs.inside.Lent.{count_in, Finds, KeptWithin}
use Rattle.visit.specs.inside.Lent as Visit
use Rattle.planner.specs.inside.Found.{answer_in}
use Rattle.planner.specs.Promises.{stops, found, SearchOf, KeptUnless}
use Rattle.planner.proofs.Refusing.{unless_enough, unless_some}

module _ (budget : ℕ) (lent : List ℕ) (R : Recorder) (valid : Valid R) where
  -- f and l are the search's own answer and list.
  pub search_is : (f : Result Found Unfound) (l : List ℕ) → Finds R (visited R) budget lent f l → SearchOf budget lent R (answer_in R.horizon f) l
  search_is f l (Visit.Finds.short q) = stops q
  search_is f l (Visit.Finds.beyond room q) = unless_enough room (stops q)
  search_is f l (Visit.Finds.nowhere room covered q) = unless_enough room (unless_enough covered (stops (visited_none R valid q)))
  search_is f l (Visit.Finds.found room covered q) =
      let f = visited_first R valid _ q in
      unless_enough room (unless_enough covered (unless_some f.feasible (found f)))

-- The lent memory is kept as the search keeps it: the answer has its count.
pub search_keeps :
    (h : ℕ) (f : Result Found Unfound) (memory after : List ℕ) → KeptWithin (count_in f) memory after → KeptUnless (256 < (answer_in h f).count) memory after
search_keeps h (Ok f) memory after k = k
search_keeps h (Err f) memory after k = k
