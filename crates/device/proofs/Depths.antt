-- No tick costs less than one at the deepest level, and no other letter costs as little. So a device that is never used stays there for ever (rule 88).
use mathlib.Core.Path.{◌≡◌, ap}
use mathlib.Core.Logic.{⊎_elim}
use Prim.Native.Nat.{ℕ, ◌≤◌, ◌<◌}
use native.Mathlib.Nat.{eq-or-lt_of_le}
use native.Mathlib.Omega.{arith}
use Rattle.device.specs.declared.Device.{Device}
use Rattle.device.specs.Row.{power_at, deep, Sound, Letter, at, State, level, power, Step, stays, shuts, wakes, falls, rises, resumes, rests}
use Rattle.device.proofs.Round.{Cheapest}
use Rattle.device.proofs.Chosen.{power_falls, deep_low}
use Rattle.device.proofs.Levels.{machine}

module _ (d : Device) (Z : Sound d) where
  -- What a letter costs, against the deepest level's power.
  abbrev Low : Letter → Type 0
  Low y = (deep d ≤ power d y) × (power d y ≤ deep d → y ≡ at d.levels)

  low_stay : (k : ℕ) → k ≤ d.levels → Low (at k)
  low_stay k h = (deep_low d Z k h, λ l. ⊎_elim (λ e. ap at e) (λ lt. absurd (omega (arith, power_falls d Z k d.levels lt (omega arith)))) (eq-or-lt_of_le h))

  low_move : (y : Letter) → power_at d 1 < power d y → Low y
  low_move y h = (omega (arith, deep_low d Z 1 Z.some_level), λ l. absurd (omega (arith, deep_low d Z 1 Z.some_level)))

  low_step : {s t : State} {y : Letter} → Step d s y t → Low y
  low_step (stays {k = k} q l) = low_stay k l
  low_step (shuts q l e) = low_move _ Z.shuts_dearer
  low_step (wakes q e) = low_move _ Z.wakes_dearer
  low_step falls = low_move _ Z.shuts_dearer
  low_step rises = low_move _ Z.wakes_dearer
  low_step resumes = low_stay 0 (omega arith)

  pub cheapest : Cheapest (machine d) (power d) (at d.levels) (level d.levels)
  cheapest = record { loop = stays rests le_self; low = λ st. (low_step st).0; only = λ st h. (low_step st).1 h }
    where
      le_self : d.levels ≤ d.levels
      le_self = omega arith
