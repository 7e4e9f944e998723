-- The key as the code stores it: two numbers for a device, neither above its cap, with no mark for a device that is unused or needed no more, since the unplaced jobs
-- tell both.
use Rattle.std.specs.Prelude.{◌≡◌, cond, List, ℕ, ◌+◌, ◌-◌, ◌<◌, min}
use Rattle.schedule.specs.declared.Recorder.{Recorder}
use Rattle.schedule.specs.Visiting.{Vertex, last_end, since}
use Rattle.keys.specs.inside.Keys.{unused, needed, Key}

module _ (R : Recorder) (ready : ℕ → ℕ → List ℕ → ℕ) (cap : ℕ → ℕ) where
  -- How long the device has been idle, where it is needed, and 0 where it is unused in a round; once it is needed no more, its closing gap.
  unfoldable pub idle_key : ℕ → Vertex → ℕ
  idle_key k v =
      cond (needed R k v.unplaced)
      (cond (unused R k v.placed) 0 (min (ready k v.time v.unplaced - last_end R k 0 v.placed) (cap k)))
      (min (since R k v.placed + (R.horizon - last_end R k 0 v.placed)) (cap k))

  -- When it was first used, in a round, as long as it is needed.
  unfoldable pub first_key : ℕ → Vertex → ℕ
  first_key k v = cond (needed R k v.unplaced) (min (since R k v.placed) (cap k)) 0

  -- The vertex v has the key q.
  pub record Told (q : Key) (v : Vertex) : Type 0 where
    pub time : v.time ≡ q.time
    pub unplaced : v.unplaced ≡ q.unplaced
    pub idle : (k : ℕ) → k < R.devices.count → idle_key k v ≡ q.idle k
    pub first : (k : ℕ) → k < R.devices.count → first_key k v ≡ q.first k
