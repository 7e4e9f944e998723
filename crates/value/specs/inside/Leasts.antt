-- The least extras to come of a vertex: the value that a search may work out in place of a plan.
use Rattle.std.specs.Prelude.{◌≡◌, cond, List, ℕ, zero, suc, ◌+◌, ◌-◌, ◌≤◌, ◌<◌, min}
use Rattle.std.proofs.Math.Option.{Option, some}
use Rattle.base.specs.Lists.{In, up_from}
use Rattle.base.specs.Sums.{sum}
use Rattle.device.specs.declared.Device.{Device}
use Rattle.schedule.specs.declared.Recorder.{Recorder}
use Rattle.schedule.specs.Quantities.{deadline, run, uses}
use Rattle.schedule.specs.Listing.{Place}
use Rattle.schedule.specs.Visiting.{Vertex, child, earliest, starts}
use Rattle.keys.specs.inside.Keys.{extra, unused, leads, closes}
use Rattle.value.specs.inside.Options.{plus, least_in}

-- One tick more costs a gap at most n more, from g ticks on and up to h; and at most n less.
abbrev pub Rises : Device → ℕ → ℕ → ℕ → Type 0
Rises d h g n = (i : ℕ) → g ≤ i → i < h → extra d (suc i) ≤ extra d i + n

abbrev pub Falls : Device → ℕ → ℕ → Type 0
Falls d h n = (i : ℕ) → i < h → extra d i ≤ extra d (suc i) + n

module _ (R : Recorder) where
  -- What the child where job j starts at x adds, over all devices; and what the end adds.
  abbrev pub lead_of : Vertex → ℕ → ℕ → ℕ
  lead_of v j x = sum R.devices.count (λ k. leads R k v.placed j x)

  abbrev pub close_of : Vertex → ℕ
  close_of v = sum R.devices.count (λ k. closes R k v.placed)

  -- The least extras to come of a vertex with m jobs unplaced, none where they can't be run: by job and start, what the child adds and the least of the child.
  unfoldable pub least_of : ℕ → Vertex → Option ℕ
  least_of zero v = some (close_of v)
  least_of (suc m) v = least_in (λ j. least_in (λ x. plus (lead_of v j x) (least_of m (child R v j x))) (starts R v.time j)) v.unplaced

  -- The children of a vertex with suc m jobs unplaced, each with what it comes to.
  abbrev pub via_child : ℕ → Vertex → ℕ → ℕ → Option ℕ
  via_child m v j x = plus (lead_of v j x) (least_of m (child R v j x))

  -- ---- reading the plan off

  -- The child where job j starts at x is the first that has the parent's least: no smaller job has one, nor the same job at an earlier start.
  pub record FirstChild (m : ℕ) (v : Vertex) (j x : ℕ) : Type 0 where
    pub job : In j v.unplaced
    pub start : In x (starts R v.time j)
    pub hits : via_child m v j x ≡ least_of (suc m) v
    pub no_job : (i y : ℕ) → i < j → In i v.unplaced → In y (starts R v.time i) → via_child m v i y ≡ least_of (suc m) v → ⊥
    pub no_start : (y : ℕ) → y < x → In y (starts R v.time j) → via_child m v j y ≡ least_of (suc m) v → ⊥

  -- From child to first child, down to a complete vertex.
  pub data Down : ℕ → Vertex → Vertex → Type 0 where
    here : {v : Vertex} → Down 0 v v
    step : {m : ℕ} {v w : Vertex} {j x : ℕ} → FirstChild m v j x → Down m (child R v j x) w → Down (suc m) v w

  -- ---- waiting

  -- The vertex at a later time.
  abbrev pub waited : Vertex → ℕ → Vertex
  waited v u = record { placed = v.placed; time = u; unplaced = v.unplaced }

  -- The starts of job j after time t that are before those after time u.
  unfoldable pub starts_to : ℕ → ℕ → ℕ → List ℕ
  starts_to t u j = up_from (earliest R t j) (min (suc (deadline R j) - (earliest R t j + run R j)) (earliest R u j - earliest R t j))

  -- ---- one tick

  -- By how much the least of a child may fall from one start of job j to the next, on device k, where `rise` and `fall` are the steepest one-tick changes of its extra.
  unfoldable pub drop_at : (ℕ → ℕ) → (ℕ → ℕ) → List Place → ℕ → ℕ → ℕ
  drop_at rise fall r j k = cond (uses R k j) (cond (unused R k r) (rise k + fall k) (rise k)) 0

  abbrev pub drop_of : (ℕ → ℕ) → (ℕ → ℕ) → Vertex → ℕ → ℕ
  drop_of rise fall v j = sum R.devices.count (drop_at rise fall v.placed j)
