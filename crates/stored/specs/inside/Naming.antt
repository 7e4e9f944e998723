-- The key of a vertex in words, worked out of the numbers that show it (vertex/specs/inside/Shown).
use Rattle.std.specs.Prelude.{◌≡◌, cond, List, ℕ, ◌+◌, ◌-◌, ◌*◌, min, ltb}
use Rattle.schedule.specs.declared.Recorder.{Recorder}
use Rattle.schedule.specs.Visiting.{Vertex}
use Rattle.latest.specs.inside.Sparing.{set_of}
use Rattle.value.specs.inside.Stored.{idle_key, first_key}
use Rattle.vertex.specs.inside.Shown.{end_at, first_at, ahead_at, fresh}
use Rattle.stored.specs.declared.Key.{Key}

module _ (R : Recorder) where
  -- Of device k how long it has been idle at the time t, and 0 where it is unused in a round; once it is needed no more, its closing gap. And when it was first used,
  -- in a round, as long as it is needed. Both up to the cap; a device that is not there has 0.
  unfoldable pub idle_by : (ℕ → ℕ) → List ℕ → ℕ → ℕ → ℕ
  idle_by cap l t k =
      cond (ltb k R.devices.count)
      (cond (ltb 0 (ahead_at l k)) (cond (fresh R l k) 0 (min (t - end_at l k) (cap k))) (min (first_at l k + (R.horizon - end_at l k)) (cap k))) 0

  unfoldable pub first_by : (ℕ → ℕ) → List ℕ → ℕ → ℕ
  first_by cap l k = cond (ltb k R.devices.count) (cond (ltb 0 (ahead_at l k)) (min (first_at l k) (cap k)) 0) 0

-- Four numbers of sixteen bits in one word.
abbrev pub four : (ℕ → ℕ) → ℕ → ℕ
four f k = ((f k * 65536 + f (k + 1)) * 65536 + f (k + 2)) * 65536 + f (k + 3)

-- The key of the numbers l at the time t, with the unplaced jobs of the set m.
unfoldable pub key_by : Recorder → (ℕ → ℕ) → List ℕ → ℕ → ℕ → Key
key_by R cap l m t =
    record {
      head = m + 65536 * t;
      idle = four (idle_by R cap l t) 0;
      idle4 = four (idle_by R cap l t) 4;
      first = four (first_by R cap l) 0;
      first4 = four (first_by R cap l) 4;
    }

-- A number of each device that is there.
abbrev pub of_devices : Recorder → (ℕ → ℕ) → ℕ → ℕ
of_devices R f k = cond (ltb k R.devices.count) (f k) 0

-- The vertex v has the key q.
pub record Named (R : Recorder) (cap : ℕ → ℕ) (q : Key) (v : Vertex) : Type 0 where
  pub head : set_of v.unplaced + 65536 * v.time ≡ q.head
  pub idle : four (of_devices R (λ k. idle_key R (λ i t u. t) cap k v)) 0 ≡ q.idle
  pub idle4 : four (of_devices R (λ k. idle_key R (λ i t u. t) cap k v)) 4 ≡ q.idle4
  pub first : four (of_devices R (λ k. first_key R (λ i t u. t) cap k v)) 0 ≡ q.first
  pub first4 : four (of_devices R (λ k. first_key R (λ i t u. t) cap k v)) 4 ≡ q.first4
