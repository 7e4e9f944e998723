-- The lent table of extras: what each gap of each device costs above the deepest sleep, and with it cap, steepest rise, steepest fall, foot and low; and of each job
-- its last start and which devices it uses.
use Rattle.std.specs.Prelude.{◌≡◌, cond, List, ℕ, ◌+◌, ◌*◌, ◌<◌, ◌≤◌, min, ltb, get_or, length}
use Rattle.schedule.specs.declared.Recorder.{Recorder}
use Rattle.schedule.specs.Quantities.{Valid, device}
use Rattle.keys.specs.inside.Keys.{extra, Caps}
use Rattle.value.specs.inside.Leasts.{Rises, Falls}
use Rattle.extras.specs.inside.Jobs.{OfJob}

unfoldable pub cap_at : List ℕ → ℕ → ℕ
cap_at l k = get_or l k 0

unfoldable pub rise_at : List ℕ → ℕ → ℕ
rise_at l k = get_or l (8 + k) 0

unfoldable pub fall_at : List ℕ → ℕ → ℕ
fall_at l k = get_or l (16 + k) 0

unfoldable pub foot_at : List ℕ → ℕ → ℕ
foot_at l k = get_or l (24 + k) 0

unfoldable pub low_at : List ℕ → ℕ → ℕ
low_at l k = get_or l (32 + k) 0

unfoldable pub extra_at : List ℕ → ℕ → ℕ → ℕ
extra_at l k g = get_or l (200 + 8 * g + k) 0

-- What no gap of g ticks or more has less than: from the foot on the extra itself, and before it no more than what a fall leads to.
unfoldable pub least_from : List ℕ → ℕ → ℕ → ℕ
least_from l k g = cond (ltb g (foot_at l k)) (min (extra_at l k g) (low_at l k)) (extra_at l k g)

-- Room for the table. Without devices it has no extras.
pub record Room (R : Recorder) (l : List ℕ) : Type 0 where
  pub long : 208 ≤ length l
  pub reach : 0 < R.devices.count → 208 + 8 * R.horizon ≤ length l

-- A valid recorder, whose powers at work fit sixteen bits, and its table: none of its numbers is more than 4,096 ticks at the largest power.
pub record Tabled (R : Recorder) (l : List ℕ) : Type 0 where
  pub valid : Valid R
  pub narrow : (k : ℕ) → k < R.devices.count → (device R k).pw ≤ 65535
  pub room : Room R l
  pub extras : (k g : ℕ) → k < R.devices.count → g ≤ R.horizon → extra_at l k g ≡ extra (device R k) g
  pub extra_most : (k g : ℕ) → k < R.devices.count → g ≤ R.horizon → extra (device R k) g ≤ 268431360
  pub caps : Caps R (cap_at l)
  pub cap_most : (k : ℕ) → k < R.devices.count → cap_at l k ≤ 4096
  pub rises : (k : ℕ) → k < R.devices.count → Rises (device R k) R.horizon 0 (rise_at l k)
  pub rise_most : (k : ℕ) → k < R.devices.count → rise_at l k ≤ 268431360
  pub falls : (k : ℕ) → k < R.devices.count → Falls (device R k) R.horizon (fall_at l k)
  pub fall_most : (k : ℕ) → k < R.devices.count → fall_at l k ≤ 268431360
  pub leasts : (k g i : ℕ) → k < R.devices.count → g ≤ i → i ≤ R.horizon → least_from l k g ≤ extra (device R k) i
  pub lists : (j : ℕ) → j < 16 → OfJob R j l
