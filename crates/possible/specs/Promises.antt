-- What `any_plan` promises: its refusals after the file's, in their order, and what it gives (rule 64). proofs/Only: it has one outcome for every input.
use Rattle.std.specs.Prelude.{List, ◌++◌, ℕ, drop}
use Rattle.schedule.specs.declared.Recorder.{Recorder}
use Rattle.schedule.specs.Quantities.{jobs}
use Rattle.planner.specs.declared.Answer.{Answer}
use Rattle.planner.specs.Promises.{success, GivesSuch, OfFile, Counted}
use Rattle.possible.specs.TillFound.{First, vertices_till_found}

-- The start of job j goes to place j, and what is lent beyond stays as it was. No energy is worked out.
abbrev pub GivesFirst : (R : Recorder) (count : ℕ) (lent : List ℕ) → Answer → List ℕ → Type 0
GivesFirst R count lent = GivesSuch (First R) (λ s. success R.horizon 0 count) (λ s. s ++ drop (jobs R) lent)

abbrev pub PossibleOf : (budget : ℕ) (lent : List ℕ) → Recorder → Answer → List ℕ → Type 0
PossibleOf budget lent R = Counted budget (vertices_till_found R) lent R (GivesFirst R (vertices_till_found R) lent)

abbrev pub Possible : List ℕ → ℕ → List ℕ → Answer → List ℕ → Type 0
Possible file budget lent a after = OfFile file lent (PossibleOf budget lent) a after
