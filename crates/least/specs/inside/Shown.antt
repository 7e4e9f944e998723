-- What the search for a number works out of a vertex (vertex/specs/inside/Shown): by how much the rest may fall from one start of a job to the next.
use Rattle.std.specs.Prelude.{cond, List, ℕ, ◌+◌}
use Rattle.base.specs.Sums.{sum}
use Rattle.schedule.specs.declared.Recorder.{Recorder}
use Rattle.schedule.specs.Quantities.{uses}
pub use Rattle.vertex.specs.inside.Shown.{end_at, first_at, ahead_at, load_at, charged, fresh, lead_by, close_by, leads_by, closes_by, Ordered, Placed, Shows, ShownAt}
unfoldable pub use Rattle.stored.specs.inside.Naming.{idle_by, first_by, key_by}
pub use Rattle.stored.specs.inside.Naming.{four}

module _ (R : Recorder) where
  -- By how much the rest may fall from one start of job j to the next.
  unfoldable pub fall_by : (ℕ → ℕ) → (ℕ → ℕ) → List ℕ → ℕ → ℕ → ℕ
  fall_by rise fall l j k = cond (uses R k j) (cond (fresh R l k) (rise k + fall k) (rise k)) 0

  abbrev pub falls_by : (ℕ → ℕ) → (ℕ → ℕ) → List ℕ → ℕ → ℕ
  falls_by rise fall l j = sum R.devices.count (fall_by rise fall l j)
