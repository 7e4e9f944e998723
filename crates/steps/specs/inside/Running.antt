-- A device job by job, as the code steps: between two events it goes on as it does, and those ticks pass all at once. Contracts inside the house cite this;
-- proofs/Laws: it comes to the same as the ticks of specs/Stepping.
use Rattle.std.specs.Prelude.{◌≡◌, Bool, false, cond, List, [], ◌∷◌, ℕ, zero, suc, ◌+◌, ◌-◌, ◌≤◌, ◌<◌, ltb, get_or}
use Rattle.base.specs.Loops.{each}
use Rattle.device.specs.declared.Device.{Device}
use Rattle.schedule.specs.declared.Recorder.{Recorder}
use Rattle.schedule.specs.Quantities.{uses}
use Rattle.schedule.specs.Listing.{Place}
use Rattle.steps.specs.declared.State.TheVariants.{Working}
use Rattle.steps.specs.declared.Stepped.{Stepped}
use Rattle.steps.specs.declared.Order.{Order}
use Rattle.steps.specs.Stepping.{at_start, at_end, end_of, spent, finally}
unfoldable pub use Rattle.steps.specs.Stepping.{alone, later}
pub use Rattle.steps.specs.Stepping.{pass_over, ruled_to}

-- The device's record over a whole job.
abbrev pub job_over : Device → (gap run : ℕ) (this next : Bool) (pause : ℕ) → Stepped → Stepped
job_over d gap run this next pause x = ruled_to at_end d this next pause (pass_over d run (ruled_to at_start d this next pause (pass_over d gap x)))

-- ---- the jobs in running order

abbrev pub begin : Order → ℕ → ℕ
begin o i = get_or o.begins i 0

abbrev pub end : Order → ℕ → ℕ
end o i = get_or o.ends i 0

abbrev pub uses_at : Order → ℕ → Bool
uses_at o i = get_or o.uses i false

-- The end of the job before job i.
abbrev pub after : Order → ℕ → ℕ
after o zero = 0
after o (suc i) = end o i

abbrev pub next_begin : ℕ → Order → ℕ → ℕ
next_begin h o j = cond (ltb j o.count) (begin o j) h

abbrev pub next_use : Order → ℕ → Bool
next_use o j = cond (ltb j o.count) (uses_at o j) false

-- No job is empty, none begins before the one before it has ended, and the last ends within the horizon.
pub record Spaced (o : Order) (h : ℕ) : Type 0 where
  pub few : o.count ≤ 16
  pub rising : (i : ℕ) → i < o.count → after o i ≤ begin o i
  pub lasting : (i : ℕ) → i < o.count → begin o i < end o i
  pub within : after o o.count ≤ h

abbrev pub fresh : Stepped
fresh = record { state = Working; energy = 0 }

unfoldable pub turn : Device → ℕ → Order → ℕ → Stepped → Stepped
turn d h o i x = job_over d (begin o i - after o i) (end o i - begin o i) (uses_at o i) (next_use o (i + 1)) (next_begin h o (i + 1) - end o i) x

-- All jobs in turn, and the ticks after the last.
unfoldable pub stepped : Device → ℕ → Order → Stepped
stepped d h o = pass_over d (h - after o o.count) (each (turn d h o) o.count fresh)

-- What device k sees of the places of a schedule, from job i on.
abbrev pub Shows : Recorder → ℕ → Order → ℕ → List Place → Type 0
Shows R k o i [] = o.count ≡ i
Shows R k o i (p ∷ r) =
    (i < o.count) × (begin o i ≡ p.start) × (end o i ≡ end_of R k p) × (uses_at o i ≡ uses R k p.job) × Shows R k o (suc i) r

-- What a schedule leaves of device k: its state at H, and the energy of its row.
abbrev pub stepped_by : Recorder → List ℕ → ℕ → Stepped
stepped_by R s k = record { state = finally R k s; energy = spent R k s }
