-- What one device does step by step (docs/RULES.md, rules 91 to 95): moves are begun at the starts and completions of given start times, and at no other tick.
-- Said tick by tick. The declared `State` is what a device's record holds: it works, sleeps, or goes down or comes up with so many ticks left.
-- A device of the first kind has one time and one power for both moves and one sleep level (rule 3); rule 96 lets no other get here.
use Rattle.std.specs.Prelude.{Bool, false, cond, not, ◌&&◌, ◌||◌, List, [], ◌∷◌, ℕ, zero, suc, ◌+◌, ◌-◌, leb, ltb, eqb}
use Rattle.base.specs.Loops.{under}
use Rattle.device.specs.declared.Device.{Device}
use Rattle.device.specs.Row.{Letter, at, W, D, U, energy}
use Rattle.schedule.specs.declared.Recorder.{Recorder}
use Rattle.schedule.specs.Quantities.{device, run, uses}
use Rattle.schedule.specs.Listing.{Place, running}
use Rattle.steps.specs.declared.State.{State}
use Rattle.steps.specs.declared.State.TheVariants.{Working, Asleep, Down, Up}
use Rattle.steps.specs.declared.Stepped.{Stepped}

-- ---- one device

-- T, the ticks of a move.
abbrev pub move_time : Device → ℕ
move_time d = d.shut

abbrev pub S : Letter
S = at 1

-- The letter of a tick (rule 30). (A move with no tick left is over.)
abbrev pub letter : State → Letter
letter Working = W
letter Asleep = S
letter (Down zero) = S
letter (Down (suc n)) = D
letter (Up zero) = W
letter (Up (suc n)) = U

-- A move with n ticks left: with none left it is over.
abbrev pub falling : ℕ → State
falling zero = Asleep
falling (suc n) = Down (suc n)

abbrev pub rising : ℕ → State
rising zero = Working
rising (suc n) = Up (suc n)

-- A tick passes: a move has one tick less left, so that one begun at t is over at t + T (rule 94).
abbrev pub passed : State → State
passed Working = Working
passed Asleep = Asleep
passed (Down zero) = Asleep
passed (Down (suc n)) = falling n
passed (Up zero) = Working
passed (Up (suc n)) = rising n

-- What a start or a completion does to a device whose moves take T, where `this` job uses it or not, the `next` uses it or not, and the pause between them is so
-- long. A device that moves goes on moving.
abbrev pub Rule : Type 0
Rule = (T : ℕ) (this next : Bool) (pause : ℕ) → State → State

-- Rule 92, where a job starts. At work, and of no use to this job: down, unless the next job wants the device before a pause of T is over.
-- Asleep: up, where the next job wants it that soon.
abbrev pub at_start : Rule
at_start T this next pause Working = cond (not this && (not next || leb T pause)) (Down T) Working
at_start T this next pause Asleep = cond (next && ltb pause T) (Up T) Asleep
at_start T this next pause (Down n) = Down n
at_start T this next pause (Up n) = Up n

-- Rule 93, where a job is completed. At work, used by this job and not by the next: down, where a move has room in the pause.
-- Asleep: up, where the next job wants the device.
abbrev pub at_end : Rule
at_end T this next pause Working = cond (this && (not next && leb T pause)) (Down T) Working
at_end T this next pause Asleep = cond next (Up T) Asleep
at_end T this next pause (Down n) = Down n
at_end T this next pause (Up n) = Up n

-- ---- one step: the record of a device before and after

-- Ticks in which nothing happens: their letters, and the state after them.
unfoldable pub alone : ℕ → State → List Letter
alone zero st = []
alone (suc n) st = letter st ∷ alone n (passed st)

unfoldable pub later : ℕ → State → State
later zero st = st
later (suc n) st = later n (passed st)

-- So many of them pass, and their energy is spent (rule 36);
abbrev pub pass_over : Device → ℕ → Stepped → Stepped
pass_over d n x = record { state = later n x.state; energy = x.energy + energy d (alone n x.state) }

-- or a job starts or is completed, by one of the two rules, in no time.
abbrev pub ruled_to : Rule → Device → (this next : Bool) (pause : ℕ) → Stepped → Stepped
ruled_to f d this next pause x = record { state = f (move_time d) this next pause x.state; energy = x.energy }

-- ---- the ticks of the round

-- What happens at a tick.
abbrev pub Events : Type 0
Events = ℕ → State → State

-- n ticks from tick t on, where st is the state before the events of tick t: of each tick the events come first, and then it passes. So a move has come to its
-- end before the events of the tick at which it does (rule 94). The letters of these ticks; and the state after them, before the events of tick t + n.
module _ (ev : Events) where
  unfoldable pub row_by : ℕ → ℕ → State → List Letter
  row_by t zero st = []
  row_by t (suc n) st = letter (ev t st) ∷ row_by (suc t) n (passed (ev t st))

  unfoldable pub state_by : ℕ → ℕ → State → State
  state_by t zero st = st
  state_by t (suc n) st = state_by (suc t) n (passed (ev t st))

-- Device k, for jobs in running order.
module _ (R : Recorder) (k : ℕ) where
  abbrev pub end_of : Place → ℕ
  end_of p = p.start + run R p.job

  -- The next job is the first of those to come. Where none is left, nothing is used (rule 91).
  abbrev pub next_uses : List Place → Bool
  next_uses [] = false
  next_uses (q ∷ r) = uses R k q.job

  -- The pause: how long after the end of this job the next one starts, or the round is over (rule 91).
  abbrev pub next_start : List Place → ℕ
  next_start [] = R.horizon
  next_start (q ∷ r) = q.start

  abbrev pub pause : Place → List Place → ℕ
  pause p r = next_start r - end_of p

  -- A rule put to the device at the job p, after which come those of r.
  abbrev pub ruled : Rule → Place → List Place → State → State
  ruled f p r = f (move_time (device R k)) (uses R k p.job) (next_uses r) (pause p r)

  -- What the starts at tick t do, and what the completions do.
  unfoldable pub starts : Rule → List Place → Events
  starts starting [] t st = st
  starts starting (p ∷ r) t st = starts starting r t (under (eqb p.start t) (ruled starting p r) st)

  unfoldable pub ends : Rule → List Place → Events
  ends ending [] t st = st
  ends ending (p ∷ r) t st = ends ending r t (under (eqb (end_of p) t) (ruled ending p r) st)

  -- Of a completion and a start at one tick, the completion is first (rule 94). Where there is neither, nothing happens.
  unfoldable pub events : Rule → Rule → List Place → Events
  events starting ending r t st = starts starting r t (ends ending r t st)

  -- A device is at work when the round begins (rule 91). Its row of H ticks, the energy of that row (rule 36), and its state at H, after what happens then.
  unfoldable pub row : List ℕ → List Letter
  row s = row_by (events at_start at_end (running R s)) 0 R.horizon Working

  unfoldable pub spent : List ℕ → ℕ
  spent s = energy (device R k) (row s)

  unfoldable pub finally : List ℕ → State
  finally s = events at_start at_end (running R s) R.horizon (state_by (events at_start at_end (running R s)) 0 R.horizon Working)
