-- Start times judged (docs/RULES.md, rules 20 to 24), the plan's energy (rules 36 to 39), and which schedule is the first of the least: the full listing
-- (rules 47 and 49), in which nothing speaks of the tree.
-- A schedule is a list of start times, one for each job.
use Rattle.std.specs.Prelude.{◌≡◌, Bool, false, cond, ◌&&◌, ◌||◌, List, [], ◌∷◌, ◌++◌, map, ◌⊎◌, ℕ, zero, suc, ◌+◌, ◌≤◌, ◌<◌, leb, ltb, ℤ, length, get_or}
use Rattle.std.proofs.Math.IntN.{sub_ℕ}
use Rattle.base.specs.Lists.{up_to, up_from, remove}
use Rattle.base.specs.Sums.{sum}
use Rattle.device.specs.declared.Sleeps.{Sleeps}
use Rattle.device.specs.Row.{Letter, byte_of, LeastRow, energy, pattern}
use Rattle.schedule.specs.declared.Recorder.{Recorder}
use Rattle.schedule.specs.Quantities.{device, jobs, release, deadline, run, uses}

-- The start time of job j.
abbrev pub start : List ℕ → ℕ → ℕ
start s j = get_or s j 0

-- ---- judging

-- A job starts no earlier than its release, and ends by its deadline (rule 20).
abbrev pub Released : Recorder → List ℕ → ℕ → Type 0
Released R s j = release R j ≤ start s j

abbrev pub InTime : Recorder → List ℕ → ℕ → Type 0
InTime R s j = start s j + run R j ≤ deadline R j

-- Job j runs in tick t.
abbrev pub Runs : Recorder → List ℕ → ℕ → ℕ → Type 0
Runs R s j t = (start s j ≤ t) × (t < start s j + run R j)

-- One start for each job, each job in its window, and at most one job in a tick (rule 20).
pub record Feasible (R : Recorder) (s : List ℕ) : Type 0 where
  pub one_each : length s ≡ jobs R
  pub released : (j : ℕ) → j < jobs R → Released R s j
  pub in_time : (j : ℕ) → j < jobs R → InTime R s j
  pub apart : (i j t : ℕ) → i < jobs R → j < jobs R → Runs R s i t → Runs R s j t → i ≡ j

-- From a job's end to its deadline, below 0 where it ends later (rules 21 and 24).
abbrev pub margin : Recorder → List ℕ → ℕ → ℤ
margin R s j = sub_ℕ (deadline R j) (start s j + run R j)

-- Job j shares a tick with another.
pub record Overlaps (R : Recorder) (s : List ℕ) (j : ℕ) : Type 0 where
  pub other : ℕ
  pub known : other < jobs R
  pub another : other ≡ j → ⊥
  pub tick : ℕ
  pub here : Runs R s j tick
  pub there : Runs R s other tick

-- The jobs before j meet their release and their deadline.
abbrev pub Met : Recorder → List ℕ → ℕ → Type 0
Met R s j = (i : ℕ) → i < j → Released R s i × InTime R s i

-- The faults 16, 17 and 18, each with its job. The first job that misses its window decides, and of its two faults the release (rule 22); only where every job
-- meets its own comes 18, with the smallest job that overlaps another (rule 23).
pub data Fault (R : Recorder) (s : List ℕ) : ℕ → ℕ → Type 0 where
  early : {j : ℕ} → j < jobs R → Met R s j → start s j < release R j → Fault R s 16 j
  late : {j : ℕ} → j < jobs R → Met R s j → Released R s j → deadline R j < start s j + run R j → Fault R s 17 j
  overlap : {j : ℕ} → j < jobs R → Met R s (jobs R) → Overlaps R s j → ((i : ℕ) → i < j → Overlaps R s i → ⊥) → Fault R s 18 j

-- ---- the plan's energy

-- A placed job.
pub record Place : Type 0 where
  pub job : ℕ
  pub start : ℕ

abbrev pub place : ℕ → ℕ → Place
place j x = record { job = j; start = x }

-- Tick t is a tick of one of the placed jobs that use device k.
unfoldable pub used : Recorder → ℕ → List Place → ℕ → Bool
used R k [] t = false
used R k (p ∷ ps) t = (uses R k p.job && (leb p.start t && ltb t (p.start + run R p.job))) || used R k ps t

-- Every job at its start.
abbrev pub places : Recorder → List ℕ → List Place
places R s = up_to (λ j. place j (start s j)) (jobs R)

-- The pattern in which the schedule uses device k, over all ticks.
abbrev pub uses_of : Recorder → List ℕ → ℕ → List Bool
uses_of R s k = pattern (used R k (places R s)) 0 R.horizon

-- The plan's rows, a least row for each device (rule 37), by the rule of the request's kind (rule 85); and e is the energy of all.
pub record Rows (R : Recorder) (s : List ℕ) (rows : ℕ → List Letter) : Type 0 where
  pub least : (k : ℕ) → k < R.devices.count → LeastRow R.round (device R k) (uses_of R s k) (rows k)

pub record Costs (R : Recorder) (s : List ℕ) (e : ℕ) : Type 0 where
  pub rows : ℕ → List Letter
  pub least : Rows R s rows
  pub sums : e ≡ sum R.devices.count (λ k. energy (device R k) (rows k))

-- The bytes of the first n rows, one after the other (rule 39). Each has H letters, so that device k's begin at place k × H.
unfoldable pub laid : Sleeps → (ℕ → List Letter) → ℕ → List ℕ
laid sleeps rows zero = []
laid sleeps rows (suc k) = laid sleeps rows k ++ map (byte_of sleeps) (rows k)

-- ---- the first of the least

-- The job of j and a list that starts first.
unfoldable pub soonest : List ℕ → ℕ → List ℕ → ℕ
soonest s j [] = j
soonest s j (i ∷ l) = soonest s (cond (ltb (start s i) (start s j)) i j) l

-- The jobs of a list in running order, with their starts: the one that starts first, then the others. `m` is their number.
unfoldable pub ordered : ℕ → List ℕ → List ℕ → List Place
ordered zero s u = []
ordered (suc m) s [] = []
ordered (suc m) s (i ∷ u) = let j = soonest s i u in place j (start s j) ∷ ordered m s (remove j (i ∷ u))

abbrev pub running : Recorder → List ℕ → List Place
running R s = ordered (jobs R) s (up_from 0 (jobs R))

-- Of two schedules in running order, the first place at which they differ decides: the smaller job, or the same job at an earlier start (rule 47).
abbrev pub Sooner : Place → Place → Type 0
Sooner p q = (p.job < q.job) ⊎ ((p.job ≡ q.job) × (p.start < q.start))

abbrev pub Before : List Place → List Place → Type 0
Before [] q = ⊥
Before (x ∷ p) [] = ⊥
Before (x ∷ p) (y ∷ q) = Sooner x y ⊎ ((x ≡ y) × Before p q)

abbrev pub Earlier : Recorder → List ℕ → List ℕ → Type 0
Earlier R s s' = Before (running R s) (running R s')

-- s is the first of the feasible schedules of least energy, and that energy is e.
pub record FirstLeast (R : Recorder) (s : List ℕ) (e : ℕ) : Type 0 where
  pub feasible : Feasible R s
  pub costs : Costs R s e
  pub least : (s' : List ℕ) (e' : ℕ) → Feasible R s' → Costs R s' e' → e ≤ e'
  pub first : (s' : List ℕ) → Feasible R s' → Costs R s' e → (s ≡ s') ⊎ Earlier R s s'
