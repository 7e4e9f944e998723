-- What a C program gets that steps a device by itself (rules 131 to 134): for a start, a completion and ticks that pass one relation between the bytes of a device, those
-- of its record, and the complete outcome. What a step does stands in steps/specs/Stepping. proofs/Only: there is one outcome for every input.
use Rattle.std.specs.Prelude.{◌≡◌, Bool, cond, not, List, [], ◌∷◌, ◌++◌, ℕ, ◌+◌, ◌*◌, ◌/◌, ◌%◌, ◌≤◌, ◌<◌, Result, Ok, Err, eqb, ltb, leb, length}
use Rattle.base.specs.Bytes.{byte_at, pair_at, pair_bytes}
use Rattle.base.specs.Refusals.{◌⇒◌, first_that}
use Rattle.base.specs.Reasons.{number_of}
use Rattle.device.specs.declared.Device.{Device}
use Rattle.tables.specs.Records.{first_at}
use Rattle.request.specs.Format.{device_of}
use Rattle.steps.specs.declared.State.{State}
use Rattle.steps.specs.declared.State.TheVariants.{Working, Asleep, Down, Up}
use Rattle.steps.specs.declared.Stepped.{Stepped}
use Rattle.calls_step.specs.declared.records.NoStep.{NoStep}
use Rattle.calls_step.specs.declared.records.NoStep.TheVariants.{Neither, Refused}
use Rattle.steps.specs.Stepping.{at_start, at_end, pass_over, ruled_to}

-- ---- the bytes

-- A device: seven bytes, as in a file of the first kind (rule 11).
abbrev pub device_in : List ℕ → Device
device_in device = device_of (first_at device 0)

-- Its record: what it does (0 works, 1 sleeps, 2 goes down, 3 comes up), the ticks left of a move, and in four bytes the energy that it has spent.
abbrev pub state_named : (byte left : ℕ) → State
state_named byte left = cond (eqb byte 0) Working (cond (eqb byte 1) Asleep (cond (eqb byte 2) (Down left) (Up left)))

abbrev pub state_bytes : State → List ℕ
state_bytes Working = 0 ∷ 0 ∷ []
state_bytes Asleep = 1 ∷ 0 ∷ []
state_bytes (Down left) = 2 ∷ left ∷ []
state_bytes (Up left) = 3 ∷ left ∷ []

abbrev pub record_in : List ℕ → Stepped
record_in bytes = record { state = state_named (byte_at bytes 0) (byte_at bytes 1); energy = pair_at bytes 2 * 65536 + pair_at bytes 4 }

abbrev pub record_bytes : Stepped → List ℕ
record_bytes x = state_bytes x.state ++ (pair_bytes (x.energy / 65536) ++ pair_bytes (x.energy % 65536))

-- ---- a call

-- What refuses them: 255 where they are no device and no record; 4 where a move takes no time; 25 where not Ps < P0 < Pw (rule 96).
unfoldable pub powers_fault : (device : List ℕ) → ℕ
powers_fault device = first_that ((leb (pair_at device 5) (pair_at device 3) ⇒ 25) ∷ (leb (pair_at device 1) (pair_at device 5) ⇒ 25) ∷ [])

unfoldable pub fault_of : (device bytes : List ℕ) → ℕ
fault_of device bytes =
    cond (not (eqb (length device) 7)) 255
    (cond (not (eqb (length bytes) 6)) 255
    (cond (ltb 3 (byte_at bytes 0)) 255
    (cond (eqb (byte_at device 0) 0) 4
    (powers_fault device))))

-- What the code has for it.
abbrev pub code_of : NoStep → ℕ
code_of Neither = 255
code_of (Refused r) = number_of r

abbrev pub code_in : Result (Unit {0}) NoStep → ℕ
code_in (Ok u) = 0
code_in (Err e) = code_of e

-- Refused, which leaves the record as it was; or 15, where what is spent no longer fits its four bytes; or the bytes of the record after the step.
pub data StepCalled (device bytes : List ℕ) (step : Device → Stepped → Stepped) : ℕ → List ℕ → Type 0 where
  refused : (fault_of device bytes ≡ 0 → ⊥) → StepCalled device bytes step (fault_of device bytes) bytes
  full : fault_of device bytes ≡ 0 → 4294967296 ≤ (step (device_in device) (record_in bytes)).energy → StepCalled device bytes step 15 bytes
  stepped : fault_of device bytes ≡ 0 → (step (device_in device) (record_in bytes)).energy < 4294967296
      → StepCalled device bytes step 0 (record_bytes (step (device_in device) (record_in bytes)))

-- A byte for yes (any but 0) or no.
abbrev pub is_set : ℕ → Bool
is_set byte = ltb 0 byte

abbrev pub StartCalled : (device : List ℕ) (this next pause : ℕ) (bytes : List ℕ) → ℕ → List ℕ → Type 0
StartCalled device this next pause bytes = StepCalled device bytes (λ d x. ruled_to at_start d (is_set this) (is_set next) pause x)

abbrev pub EndCalled : (device : List ℕ) (this next pause : ℕ) (bytes : List ℕ) → ℕ → List ℕ → Type 0
EndCalled device this next pause bytes = StepCalled device bytes (λ d x. ruled_to at_end d (is_set this) (is_set next) pause x)

abbrev pub PassCalled : (device : List ℕ) (ticks : ℕ) (bytes : List ℕ) → ℕ → List ℕ → Type 0
PassCalled device ticks bytes = StepCalled device bytes (λ d x. pass_over d ticks x)
