-- Start times mended (docs/RULES.md, rules 65 to 68): what the mended schedule is, which job is the first late one, and the list of moves. Nothing here says
-- how they are found.
-- Given starts are any numbers, one for each job.
use Rattle.std.specs.Prelude.{◌≡◌, cond, List, [], ◌∷◌, ◌++◌, ◌⊎◌, ℕ, zero, suc, ◌+◌, ◌≤◌, ◌<◌, eqb, length}
use Rattle.schedule.specs.declared.Recorder.{Recorder}
use Rattle.schedule.specs.Quantities.{jobs, deadline, run}
use Rattle.schedule.specs.Listing.{start, Released, InTime, Runs, Feasible}

-- Job i comes before job j by their starts, and by their numbers where the starts are equal (rule 65).
abbrev pub Ahead : List ℕ → ℕ → ℕ → Type 0
Ahead s i j = (start s i < start s j) ⊎ ((start s i ≡ start s j) × (i < j))

-- The starts s have the jobs in the order of the given starts, and none before its given start.
pub record Keeps (R : Recorder) (given s : List ℕ) : Type 0 where
  pub in_order : (i j : ℕ) → i < jobs R → j < jobs R → Ahead given i j → Ahead s i j
  pub not_before : (j : ℕ) → j < jobs R → start given j ≤ start s j

-- Such starts that are feasible (rule 66);
pub record Fits (R : Recorder) (given s : List ℕ) : Type 0 where
  pub feasible : Feasible R s
  pub keeps : Keeps R given s

-- and such starts with no thought of deadlines: the jobs queue, each waits for its release, and no two share a tick (rule 67).
pub record Queues (R : Recorder) (given s : List ℕ) : Type 0 where
  pub one_each : length s ≡ jobs R
  pub released : (j : ℕ) → j < jobs R → Released R s j
  pub apart : (i j t : ℕ) → i < jobs R → j < jobs R → Runs R s i t → Runs R s j t → i ≡ j
  pub keeps : Keeps R given s

-- Of all such starts s has for each job the smallest.
pub record Smallest (R : Recorder) (Such : List ℕ → Type 0) (s : List ℕ) : Type 0 where
  pub such : Such s
  pub smallest : (s' : List ℕ) → Such s' → (j : ℕ) → j < jobs R → start s j ≤ start s' j

-- The mended schedule (rule 66); and where the jobs come out, in time or late (rule 67).
abbrev pub Mends : Recorder → List ℕ → List ℕ → Type 0
Mends R given s = Smallest R (Fits R given) s

abbrev pub ComesOut : Recorder → List ℕ → List ℕ → Type 0
ComesOut R given s = Smallest R (Queues R given) s

-- The jobs come out at s: of those that are late, j starts first (rule 67).
pub record FirstLate (R : Recorder) (s : List ℕ) (j : ℕ) : Type 0 where
  pub known : j < jobs R
  pub late : deadline R j < start s j + run R j
  pub first : (i : ℕ) → i < jobs R → start s i < start s j → InTime R s i

-- A job that moved, with both its starts; those of the first n jobs, by number; and three numbers for each (rule 68).
pub record Move : Type 0 where
  pub job : ℕ
  pub from : ℕ
  pub to : ℕ

unfoldable pub moves : List ℕ → List ℕ → ℕ → List Move
moves given s zero = []
moves given s (suc j) = moves given s j ++ cond (eqb (start given j) (start s j)) [] (record { job = j; from = start given j; to = start s j } ∷ [])

abbrev pub numbers : List Move → List ℕ
numbers [] = []
numbers (m ∷ l) = m.job ∷ m.from ∷ m.to ∷ numbers l
