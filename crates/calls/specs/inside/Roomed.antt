-- Why a file is not planned into as many bytes as there is room for: it is refused, or its start times are too many. No contract of a call speaks of it.
use Rattle.std.specs.Prelude.{List, ℕ, ◌*◌, ◌<◌}
use Rattle.schedule.specs.declared.Recorder.{Recorder}
use Rattle.schedule.specs.Quantities.{jobs}
use Rattle.planner.specs.declared.Answer.{Answer}
use Rattle.planner.specs.Promises.{refusal, Refused, Reads}

pub data Unroomed (file : List ℕ) (room : ℕ) : Answer → Type 0 where
  refused : {n : ℕ} → Refused file n → Unroomed file room (refusal n)
  short : {R : Recorder} → Reads file R → room < jobs R * 2 → Unroomed file room (refusal 15)
