-- What `step_through` promises: its refusals after the file's, in their order, and what is answered where none is (rule 96). proofs/Only: it has one outcome for
-- every input.
use Rattle.std.specs.Prelude.{◌≡◌, List, ◌++◌, ℕ, ◌<◌, length, drop}
use Rattle.base.specs.Bytes.{byte_at}
use Rattle.base.specs.Lists.{up_to}
use Rattle.base.specs.Sums.{sum}
use Rattle.device.specs.declared.Device.{Device}
use Rattle.device.specs.Row.{power_at}
use Rattle.schedule.specs.declared.Recorder.{Recorder}
use Rattle.schedule.specs.Quantities.{device, jobs, run}
use Rattle.steps.specs.Stepping.{move_time, spent}
use Rattle.planner.specs.declared.Answer.{Answer}
use Rattle.planner.specs.Promises.{success, refusal, Unless, UnlessFaulty, Gives, OfFile}

-- Moving costs more than sleep and less than work: Ps < P0 < Pw.
abbrev pub Between : Device → Type 0
Between d = (power_at d 1 < d.pd) × (d.pd < d.pw)

-- 25: the first byte of the file is FF, or a device of it, used or not, costs otherwise to move.
pub data Unfit (file : List ℕ) (R : Recorder) : Type 0 where
  marked : byte_at file 0 ≡ 255 → Unfit file R
  unlike : {k : ℕ} → k < R.devices.count → (Between (device R k) → ⊥) → Unfit file R

-- 24: a job, listed or unfolded, is shorter than a move of some device, used or not.
pub data Brief (R : Recorder) : Type 0 where
  shorter : {j k : ℕ} → j < jobs R → k < R.devices.count → run R j < move_time (device R k) → Brief R

-- The energies go to the first places, a device each, and what is lent beyond stays as it was; the answer has their sum.
abbrev pub StepsOf : (file starts lent : List ℕ) → Recorder → Answer → List ℕ → Type 0
StepsOf file starts lent R =
    Unless (length starts ≡ jobs R → ⊥) (refusal 14) lent
    (Unless (length lent < R.devices.count) (refusal 15) lent
    (UnlessFaulty R starts lent
    (Unless (Unfit file R) (refusal 25) lent
    (Unless (Brief R) (refusal 24) lent
    (Gives (success R.horizon (sum R.devices.count (λ k. spent R k starts)) 0)
    (up_to (λ k. spent R k starts) R.devices.count ++ drop R.devices.count lent))))))

abbrev pub SteppedThrough : List ℕ → List ℕ → List ℕ → Answer → List ℕ → Type 0
SteppedThrough file starts lent a after = OfFile file lent (StepsOf file starts lent) a after
