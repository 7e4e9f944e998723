-- A vertex as a search lends it, in twenty-five numbers: of device k the end of its last use at k, in a round the start of its first use at 8 + k, and at 16 + k the
-- ticks for which the unplaced jobs will use it; at 24 the running times of the unplaced jobs. The time, the set of the unplaced jobs and the floor go beside.
use Rattle.std.specs.Prelude.{◌≡◌, Bool, false, cond, List, ℕ, ◌+◌, ◌-◌, ◌*◌, ◌≤◌, ◌<◌, eqb, get_or, set, length}
use Rattle.base.specs.Sums.{total, sum}
use Rattle.device.specs.Row.{deep}
use Rattle.schedule.specs.declared.Recorder.{Recorder}
use Rattle.schedule.specs.Quantities.{device, run, uses}
use Rattle.schedule.specs.Visiting.{Vertex, last_end, since, ticks}
use Rattle.schedule.proofs.Tree.{Reached}
use Rattle.latest.specs.inside.Sparing.{set_of}
use Rattle.keys.specs.inside.Keys.{extra}

-- A device whose last use ended at e has none yet in a round. (A use ends after tick 0.)
abbrev pub unused : Bool → ℕ → Bool
unused round e = cond round (eqb e 0) false

abbrev pub end_at : List ℕ → ℕ → ℕ
end_at l k = get_or l k 0

abbrev pub first_at : List ℕ → ℕ → ℕ
first_at l k = get_or l (8 + k) 0

abbrev pub ahead_at : List ℕ → ℕ → ℕ
ahead_at l k = get_or l (16 + k) 0

abbrev pub load_at : List ℕ → ℕ
load_at l = get_or l 24 0

-- The numbers with a job that starts at s and runs for c ticks charged to device k.
unfoldable pub charged : Bool → ℕ → ℕ → ℕ → List ℕ → List ℕ
charged round k s c l =
    set (set (set l k (s + c)) (8 + k) (cond (unused round (end_at l k)) s (first_at l k))) (16 + k) (ahead_at l k - c)

module _ (R : Recorder) where
  -- In a round, and without a use so far.
  abbrev pub fresh : List ℕ → ℕ → Bool
  fresh l k = unused R.round (end_at l k)

  -- What device k adds where job j starts at s, and what it adds at the end.
  unfoldable pub lead_by : List ℕ → ℕ → ℕ → ℕ → ℕ
  lead_by l j s k = cond (uses R k j) (cond (fresh l k) 0 (extra (device R k) (s - end_at l k))) 0

  -- The end of its last use is e, and in a round the start of its first f.
  abbrev pub close_for : ℕ → ℕ → ℕ → ℕ
  close_for k e f = cond (unused R.round e) 0 (extra (device R k) (f + (R.horizon - e)))

  unfoldable pub close_by : List ℕ → ℕ → ℕ
  close_by l k = close_for k (end_at l k) (first_at l k)

  -- What it adds at the end where job j is the last, and starts at s.
  unfoldable pub end_by : List ℕ → ℕ → ℕ → ℕ → ℕ
  end_by l j s k = close_for k (cond (uses R k j) (s + run R j) (end_at l k)) (cond (uses R k j) (cond (fresh l k) s (first_at l k)) (first_at l k))

  abbrev pub leads_by : List ℕ → ℕ → ℕ → ℕ
  leads_by l j s = sum R.devices.count (lead_by l j s)

  abbrev pub closes_by : List ℕ → ℕ
  closes_by l = sum R.devices.count (close_by l)

  abbrev pub ends_by : List ℕ → ℕ → ℕ → ℕ
  ends_by l j s = sum R.devices.count (end_by l j s)

  -- The floor where no job is placed: at work for each tick that the jobs will use a device, and in its deepest sleep for every other.
  unfoldable pub idle_floor : List ℕ → ℕ → ℕ
  idle_floor l k = (device R k).pw * ahead_at l k + deep (device R k) * (R.horizon - ahead_at l k)

-- ---- the numbers against the vertex

-- What the numbers of a vertex are, whatever it is, at the time t.
pub record Ordered (R : Recorder) (l : List ℕ) (t : ℕ) : Type 0 where
  pub long : length l ≡ 25
  pub by : t ≤ R.horizon
  pub ends : (k : ℕ) → k < R.devices.count → end_at l k ≤ t
  pub firsts : (k : ℕ) → k < R.devices.count → first_at l k ≤ end_at l k

-- The numbers l' are l with job j placed at s.
pub record Placed (R : Recorder) (l l' : List ℕ) (j s : ℕ) : Type 0 where
  pub long : length l' ≡ 25
  pub ends : (k : ℕ) → k < R.devices.count → end_at l' k ≡ cond (uses R k j) (s + run R j) (end_at l k)
  pub firsts : (k : ℕ) → k < R.devices.count → first_at l' k ≡ cond (uses R k j) (cond (fresh R l k) s (first_at l k)) (first_at l k)
  pub aheads : (k : ℕ) → k < R.devices.count → ahead_at l' k ≡ ahead_at l k - ticks R k j
  pub load : load_at l' ≡ load_at l - run R j

-- The numbers l show the vertex v, whose m unplaced jobs are those of the set. Both sums over them stand in l (rules 43 and 46).
pub record Shows (R : Recorder) (l : List ℕ) (jobs m : ℕ) (v : Vertex) : Type 0 where
  pub reached : Reached R m v
  pub long : length l ≡ 25
  pub set : set_of v.unplaced ≡ jobs
  pub ends : (k : ℕ) → k < R.devices.count → end_at l k ≡ last_end R k 0 v.placed
  pub firsts : (k : ℕ) → k < R.devices.count → first_at l k ≡ since R k v.placed
  pub aheads : (k : ℕ) → k < R.devices.count → ahead_at l k ≡ total (ticks R k) v.unplaced
  pub load : load_at l ≡ total (run R) v.unplaced

-- They show a vertex at the time t.
pub record ShownAt (R : Recorder) (l : List ℕ) (jobs t : ℕ) : Type 0 where
  pub left : ℕ
  pub vertex : Vertex
  pub shows : Shows R l jobs left vertex
  pub time : vertex.time ≡ t
