-- What judging start times gives, as the code hands it on.
use Rattle.std.specs.Prelude.{Bool, true, false, cond, List, ℕ, ◌+◌, ltb, eqb, Result, Ok, Err}
use Rattle.base.specs.Reasons.{number_of}
use Rattle.schedule.specs.declared.Recorder.{Recorder}
use Rattle.schedule.specs.declared.judging.Misplaced.{Misplaced}
use Rattle.schedule.specs.Quantities.{jobs}
use Rattle.schedule.specs.Listing.{Feasible, Fault, Met}

-- Feasible starts; or the fault with its job.
abbrev pub Judgement : Recorder → List ℕ → Result (Unit {0}) Misplaced → Type 0
Judgement R s (Ok u) = Feasible R s
Judgement R s (Err m) = Fault R s (number_of m.reason) m.job.0

-- Of jobs each by itself: each meets its release and its deadline; or the fault, 16 or 17, with its job.
abbrev pub Windows : Recorder → List ℕ → Result (Unit {0}) Misplaced → Type 0
Windows R s (Ok u) = Met R s (jobs R)
Windows R s (Err m) = Fault R s (number_of m.reason) m.job.0

-- One job by itself.
unfoldable pub window_fault : (a d c s : ℕ) → ℕ
window_fault a d c s = cond (ltb s a) 16 (cond (ltb d (s + c)) 17 0)

-- Job i, of c ticks from s on, and job j, of e ticks from t on, are two that share a tick.
unfoldable pub clashes : (i s c j t e : ℕ) → Bool
clashes i s c j t e = cond (eqb i j) false (cond (ltb s (t + e)) (ltb t (s + c)) false)

-- A test decides a fact.
pub data Decides (P : Type 0) : Bool → Type 0 where
  holds : P → Decides P true
  fails : (P → ⊥) → Decides P false
