-- One device in the table of extras, and one job: what stands there of it, and what laying it leaves as it was.
use Rattle.std.specs.Prelude.{◌≡◌, List, ℕ, suc, ◌+◌, ◌*◌, ◌<◌, ◌≤◌, get_or, length}
use Rattle.device.specs.declared.Device.{Device}
use Rattle.schedule.specs.declared.Recorder.{Recorder}
use Rattle.keys.specs.inside.Keys.{extra}
use Rattle.extras.specs.inside.Shapes.{shape_of}
use Rattle.extras.specs.inside.Tabled.{extra_at, cap_at, rise_at, fall_at, foot_at, low_at}
use Rattle.extras.specs.inside.Jobs.{OfJob}

-- The extras of d up to h ticks were laid as those of device k: but for their places l is as l₀.
pub record LaidGaps (d : Device) (k h : ℕ) (l₀ l : List ℕ) : Type 0 where
  pub long : length l ≡ length l₀
  pub laid : (g : ℕ) → g ≤ h → extra_at l k g ≡ extra d g
  pub kept : (i : ℕ) → ((g : ℕ) → i ≡ 200 + 8 * g + k → ⊥) → get_or l i 0 ≡ get_or l₀ i 0

-- All of d stands in the table as device k.
pub record Stands (d : Device) (k h : ℕ) (l : List ℕ) : Type 0 where
  pub laid : (g : ℕ) → g ≤ h → extra_at l k g ≡ extra d g
  pub cap : cap_at l k ≡ (shape_of d (suc h)).cap
  pub rise : rise_at l k ≡ (shape_of d (suc h)).rise
  pub fall : fall_at l k ≡ (shape_of d (suc h)).fall
  pub foot : foot_at l k ≡ (shape_of d (suc h)).foot
  pub low : low_at l k ≡ (shape_of d (suc h)).low

-- It was laid: what stood of the devices before it stands still. Its power at work fits sixteen bits.
pub record LaidDevice (d : Device) (k h : ℕ) (l₀ l : List ℕ) : Type 0 where
  pub long : length l ≡ length l₀
  pub narrow : d.pw ≤ 65535
  pub stands : Stands d k h l
  pub kept : (e : Device) (i : ℕ) → i < k → Stands e i h l₀ → Stands e i h l

-- Job j was laid: but for its places l is as l₀.
pub record LaidJob (R : Recorder) (j : ℕ) (l₀ l : List ℕ) : Type 0 where
  pub long : length l ≡ length l₀
  pub lists : OfJob R j l
  pub kept : (i : ℕ) → (i ≡ 40 + j → ⊥) → (i ≡ 56 + j → ⊥) → (72 + 8 * j ≤ i → i < 80 + 8 * j → ⊥) → get_or l i 0 ≡ get_or l₀ i 0

-- The first n jobs were.
pub record LaidJobs (R : Recorder) (n : ℕ) (l₀ l : List ℕ) : Type 0 where
  pub long : length l ≡ length l₀
  pub lists : (j : ℕ) → j < n → OfJob R j l
  pub kept : (i : ℕ) → (40 ≤ i → i < 200 → ⊥) → get_or l i 0 ≡ get_or l₀ i 0
