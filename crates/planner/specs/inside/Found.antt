-- The answer that is made of what the search found.
use Rattle.std.specs.Prelude.{ℕ, Result, Ok, Err}
use Rattle.base.specs.Reasons.{number_of}
use Rattle.planner.specs.declared.Answer.{Answer}
use Rattle.planner.specs.Promises.{success, refusal_after}
use Rattle.visit.specs.declared.Found.{Found}
use Rattle.visit.specs.declared.Unfound.{Unfound}

abbrev pub answer_in : ℕ → Result Found Unfound → Answer
answer_in h (Ok f) = success h f.energy f.count
answer_in h (Err f) = refusal_after (number_of f.reason) f.count
