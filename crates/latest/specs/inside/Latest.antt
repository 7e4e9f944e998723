-- The latest time from which a set of jobs can still be run, by recursion over the sets. Nobody need believe it: no promise speaks of it, and proofs/Feasibility
-- shows what it decides.
use Rattle.std.specs.Prelude.{◌≡◌, true, cond, List, [], ◌∷◌, ◌++◌, ℕ, zero, suc, ◌+◌, ◌-◌, ◌^◌, ◌<◌, max, min, eqb, ltb, get_or, length}
use Rattle.base.specs.Loops.{each, under}
use Rattle.schedule.specs.declared.Recorder.{Recorder}
use Rattle.schedule.specs.Quantities.{jobs, release, deadline, run}
use Rattle.schedule.specs.Listing.{Place}
use Rattle.schedule.specs.Visiting.{earliest, written}
use Rattle.latest.specs.inside.Sets.{has, members}

-- The jobs of the set m, rising.
abbrev pub jobs_of : Recorder → ℕ → List ℕ
jobs_of R m = members 0 (jobs R) m

-- Every time is held as one more than it is, and 0 stands for never. The latest start of a job with release a, deadline d and running time c that is over by
-- the time x and by its deadline.
unfoldable pub slot : ℕ → ℕ → ℕ → ℕ → ℕ
slot a d c x = cond (ltb (a + c) (min x (suc d))) (min x (suc d) - c) 0

-- The later of b and the latest start of job j, where it is one of m and goes first, and f says how late what is left may begin.
unfoldable pub offer : Recorder → (ℕ → ℕ) → ℕ → ℕ → ℕ → ℕ
offer R f m j b = under (has m j) (max (slot (release R j) (deadline R j) (run R j) (f (m - 2 ^ j)))) b

-- The empty set can be run up to the horizon; of any other some job goes first.
unfoldable pub latest_by : Recorder → (ℕ → ℕ) → ℕ → ℕ
latest_by R f m = cond (eqb m 0) (suc R.horizon) (each (offer R f m) (jobs R) 0)

-- The first m of them; and that of the set m.
unfoldable pub latests : Recorder → ℕ → List ℕ
latests R zero = []
latests R (suc m) = latests R m ++ (latest_by R (λ i. get_or (latests R m) i 0) m ∷ [])

unfoldable pub latest_of : Recorder → ℕ → ℕ
latest_of R m = latest_by R (λ i. get_or (latests R m) i 0) m

-- The table l holds that of each set of the recorder's jobs.
pub record Laid (R : Recorder) (l : List ℕ) : Type 0 where
  pub long : length l ≡ 65536
  pub laid : (m : ℕ) → m < 2 ^ jobs R → get_or l m 0 ≡ latest_of R m

-- ---- the first run

-- Job j of the set m can go first from time t on: at its earliest start it meets its deadline, and what is left can be run from its end on.
pub record Opens (R : Recorder) (t m j : ℕ) : Type 0 where
  pub known : j < jobs R
  pub one_of : has m j ≡ true
  pub fits : earliest R t j + run R j < min (latest_of R (m - 2 ^ j)) (suc (deadline R j))

-- It is the smallest of those.
pub record Leads (R : Recorder) (t m j : ℕ) : Type 0 where
  pub opens : Opens R t m j
  pub least : (i : ℕ) → i < j → Opens R t m i → ⊥

-- Each job that leads, at its earliest start, until none is left.
abbrev pub Greedy : Recorder → ℕ → ℕ → List Place → Type 0
Greedy R t m [] = m ≡ 0
Greedy R t m (p ∷ r) = Leads R t m p.job × (p.start ≡ earliest R t p.job) × Greedy R (p.start + run R p.job) (m - 2 ^ p.job) r

-- The starts of such a run of all jobs are written over the lent list.
pub record Led (R : Recorder) (lent after : List ℕ) : Type 0 where
  pub places : List Place
  pub greedy : Greedy R 0 (2 ^ jobs R - 1) places
  pub is : after ≡ written places lent
