-- A round on single steps. Where a C program puts to a device the ticks before each job, its start, its ticks and its completion, in running order, and then the ticks up
-- to the horizon, the record comes to what stepping through the round has: the state at H, and the energy of its row (steps/specs/Stepping: `finally`, `spent`).
use mathlib.Core.Path.{◌≡◌, refl, ap, ◌∙◌}
use mathlib.Core.Bool.{Bool, true, false, cond}
use mathlib.Core.List.{List}
use Prim.Native.Nat.{ℕ, suc, ◌+◌, ◌-◌}
use lib.ListN.{replicate}
use Rattle.base.specs.Loops.{each}
use Rattle.device.specs.declared.Device.{Device}
use Rattle.schedule.specs.declared.Recorder.{Recorder}
use Rattle.schedule.specs.Quantities.{Valid}
use Rattle.schedule.specs.Quantities as Q
use Rattle.schedule.specs.Listing.{Feasible, running}
use Rattle.steps.specs.declared.Stepped.{Stepped}
use Rattle.steps.specs.declared.Order.{Order}
use Rattle.steps.specs.Stepping.{at_start, at_end, pass_over, ruled_to}
use Rattle.steps.specs.inside.Running.{job_over, begin, end, uses_at, after, next_begin, next_use, fresh, turn, stepped, Shows, stepped_by}
use Rattle.steps.proofs.Agreeing.{stepped_by_lem}
use Rattle.calls_step.specs.StepCall.{device_in, record_in, is_set, StartCalled, EndCalled, PassCalled}
use Rattle.calls_step.proofs.Only.{steps_on}

-- A byte for a yes or a no.
abbrev pub flag : Bool → ℕ
flag b = cond b 1 0

flag_set : (b : Bool) → is_set (flag b) ≡ b
flag_set true = refl
flag_set false = refl

-- Four steps make a job.
four_steps :
    (d : Device) (gap run pause : ℕ) (u v u' v' : Bool) (x x₁ x₂ x₃ x₄ : Stepped) → u' ≡ u → v' ≡ v → x₁ ≡ pass_over d gap x → x₂ ≡ ruled_to at_start d u' v' pause x₁
    → x₃ ≡ pass_over d run x₂ → x₄ ≡ ruled_to at_end d u' v' pause x₃ → x₄ ≡ job_over d gap run u v pause x
four_steps d gap run pause u v u' v' x x₁ x₂ x₃ x₄ e f a b c g = rw (g, c, b, a, e, f)

-- The jobs of o in running order, up to the horizon h.
module _ (device : List ℕ) (h : ℕ) (o : Order) where
  abbrev uses : ℕ → ℕ
  uses i = flag (uses_at o i)

  abbrev next : ℕ → ℕ
  next i = flag (next_use o (i + 1))

  abbrev pause : ℕ → ℕ
  pause i = next_begin h o (i + 1) - end o i

  -- The four calls for job i, each of which returns 0.
  pub record JobCalled (i : ℕ) (bytes bytes' : List ℕ) : Type 0 where
    pub waited : List ℕ
    pub begun : List ℕ
    pub ran : List ℕ
    pub waits : PassCalled device (begin o i - after o i) bytes 0 waited
    pub begins : StartCalled device (uses i) (next i) (pause i) waited 0 begun
    pub runs : PassCalled device (end o i - begin o i) begun 0 ran
    pub ends : EndCalled device (uses i) (next i) (pause i) ran 0 bytes'

  -- Those for the first n jobs, from a record of zeros on.
  pub data JobsCalled : ℕ → List ℕ → Type 0 where
    begun : JobsCalled 0 (replicate 6 0)
    job_more : {n : ℕ} {bytes bytes' : List ℕ} → JobsCalled n bytes → JobCalled n bytes bytes' → JobsCalled (suc n) bytes'

  job_called : (i : ℕ) (bytes bytes' : List ℕ) → JobCalled i bytes bytes' → record_in bytes' ≡ turn (device_in device) h o i (record_in bytes)
  unfolding turn
  job_called i bytes bytes' c =
      four_steps (device_in device) (begin o i - after o i) (end o i - begin o i) (pause i) (uses_at o i) (next_use o (i + 1)) (is_set (uses i)) (is_set (next i))
      (record_in bytes) (record_in c.waited) (record_in c.begun) (record_in c.ran) (record_in bytes') (flag_set (uses_at o i)) (flag_set (next_use o (i + 1)))
      (steps_on _ _ _ c.waits refl) (steps_on _ _ _ c.begins refl) (steps_on _ _ _ c.runs refl) (steps_on _ _ _ c.ends refl)

  jobs_called : (n : ℕ) (bytes : List ℕ) → JobsCalled n bytes → record_in bytes ≡ each (turn (device_in device) h o) n fresh
  unfolding each
  jobs_called n bytes begun = refl
  jobs_called n bytes (job_more {n = m} {bytes = b} c j) = job_called m b bytes j ∙ ap (turn (device_in device) h o m) (jobs_called m b c)

  pub round_called : (bytes bytes' : List ℕ) → JobsCalled o.count bytes → PassCalled device (h - after o o.count) bytes 0 bytes' → record_in bytes' ≡ stepped (device_in device) h o
  unfolding stepped
  round_called bytes bytes' c p = steps_on _ _ _ p refl ∙ ap (pass_over (device_in device) (h - after o o.count)) (jobs_called o.count bytes c)

-- For feasible starts whose running order o shows: the state at H, and what `step_through` says that device k spends.
pub round_spends :
    (R : Recorder) → Valid R → (s : List ℕ) → Feasible R s → (k : ℕ) (o : Order) → Shows R k o 0 (running R s) → (device : List ℕ) → device_in device ≡ Q.device R k
    → (bytes bytes' : List ℕ) → JobsCalled device R.horizon o o.count bytes → PassCalled device (R.horizon - after o o.count) bytes 0 bytes'
    → record_in bytes' ≡ stepped_by R s k
round_spends R valid s f k o shows device e bytes bytes' c p =
    round_called device R.horizon o bytes bytes' c p ∙ ap (λ (d : Device). stepped d R.horizon o) e ∙ stepped_by_lem R valid s f k o shows
