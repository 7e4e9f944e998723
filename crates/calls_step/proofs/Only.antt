-- No second outcome satisfies what a step promises: for every device and record one number, and one state of the bytes; and how steps follow each other.
use mathlib.Core.Path.{◌≡◌, refl}
use mathlib.Core.List.{List}
use Prim.Native.Nat.{ℕ}
use native.Mathlib.Omega.{arith}
use Rattle.device.specs.declared.Device.{Device}
use Rattle.steps.specs.declared.Stepped.{Stepped}
use Rattle.tables.specs.Layout.{Bytes}
use Rattle.calls_step.specs.StepCall.{device_in, record_in, fault_of, StepCalled, refused, full, stepped, StartCalled, EndCalled}
use Rattle.calls_step.proofs.Steps.{record_back, energy_fits}

pub only_step_called : (device bytes : List ℕ) (step : Device → Stepped → Stepped) {n n' : ℕ} {after after' : List ℕ}
    → StepCalled device bytes step n after → StepCalled device bytes step n' after' → (n ≡ n') × (after ≡ after')
only_step_called device bytes step (refused h) (refused h') = (refl, refl)
only_step_called device bytes step (refused h) (full z l') = absurd (h z)
only_step_called device bytes step (refused h) (stepped z l') = absurd (h z)
only_step_called device bytes step (full z l) (refused h') = absurd (h' z)
only_step_called device bytes step (full z l) (full z' l') = (refl, refl)
only_step_called device bytes step (full z l) (stepped z' l') = absurd (omega (arith, l, l'))
only_step_called device bytes step (stepped z l) (refused h') = absurd (h' z)
only_step_called device bytes step (stepped z l) (full z' l') = absurd (omega (arith, l, l'))
only_step_called device bytes step (stepped z l) (stepped z' l') = (refl, refl)

-- A call that returns 0 leaves the bytes of the record after the step: what the next call steps from.
pub steps_on : (device bytes : List ℕ) (step : Device → Stepped → Stepped) {n : ℕ} {after : List ℕ} → StepCalled device bytes step n after → n ≡ 0
    → record_in after ≡ step (device_in device) (record_in bytes)
steps_on device bytes step (refused h) z = absurd (h z)
steps_on device bytes step (full f l) z = absurd (omega arith)
steps_on device bytes step (stepped f l) z = record_back (step (device_in device) (record_in bytes))

-- Starts and completions spend nothing, so that 15 is never for them.
pub start_fits : (device : List ℕ) (this next pause : ℕ) (bytes : List ℕ) → Bytes bytes → {n : ℕ} {after : List ℕ} → StartCalled device this next pause bytes n after
    → fault_of device bytes ≡ 0 → n ≡ 0
start_fits device this next pause bytes b (refused h) z = absurd (h z)
start_fits device this next pause bytes b (full f l) z = absurd (omega (arith, l, energy_fits bytes b))
start_fits device this next pause bytes b (stepped f l) z = refl

pub end_fits : (device : List ℕ) (this next pause : ℕ) (bytes : List ℕ) → Bytes bytes → {n : ℕ} {after : List ℕ} → EndCalled device this next pause bytes n after
    → fault_of device bytes ≡ 0 → n ≡ 0
end_fits device this next pause bytes b (refused h) z = absurd (h z)
end_fits device this next pause bytes b (full f l) z = absurd (omega (arith, l, energy_fits bytes b))
end_fits device this next pause bytes b (stepped f l) z = refl
