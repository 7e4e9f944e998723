-- What the code hands on of a file where the result buffer has no room. Nobody need believe it: no contract of a call speaks of it.
use Rattle.std.specs.Prelude.{List, ℕ}
use Rattle.schedule.specs.declared.Recorder.{Recorder}
use Rattle.planner.specs.Promises.{Refused, Reads}

pub data Cramped (file : List ℕ) : ℕ → Type 0 where
  refused : {n : ℕ} → Refused file n → Cramped file n
  read : {R : Recorder} → Reads file R → Cramped file 15
