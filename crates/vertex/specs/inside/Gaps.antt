-- What the gaps before a job add by the table of extras: where it starts at s, or at least where it starts at s or later.
use Rattle.std.specs.Prelude.{Bool, cond, List, ℕ, ◌-◌}
use Rattle.base.specs.Sums.{sum}
use Rattle.schedule.specs.declared.Recorder.{Recorder}
use Rattle.schedule.specs.Quantities.{uses}
use Rattle.extras.specs.inside.Tabled.{extra_at, least_from}
use Rattle.vertex.specs.inside.Shown.{end_at, fresh}

-- A gap of g ticks of device k, or one that is no shorter.
abbrev pub gap_at : List ℕ → Bool → ℕ → ℕ → ℕ
gap_at x later k g = cond later (least_from x k g) (extra_at x k g)

module _ (R : Recorder) (x l : List ℕ) (later : Bool) where
  unfoldable pub gap_by : ℕ → ℕ → ℕ → ℕ
  gap_by j s k = cond (uses R k j) (cond (fresh R l k) 0 (gap_at x later k (s - end_at l k))) 0

  abbrev pub gaps_by : ℕ → ℕ → ℕ
  gaps_by j s = sum R.devices.count (gap_by j s)
