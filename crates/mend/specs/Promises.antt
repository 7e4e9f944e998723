-- What `mend` promises: a case for each of its refusals after the file's, in their order, and one for success (rule 69). proofs/Only: it has one outcome for
-- every input.
use Rattle.std.specs.Prelude.{◌≡◌, List, ◌++◌, ℕ, ◌*◌, ◌≤◌, length, drop}
use Rattle.schedule.specs.declared.Recorder.{Recorder}
use Rattle.schedule.specs.Quantities.{jobs}
use Rattle.planner.specs.declared.Answer.{Answer}
use Rattle.planner.specs.Promises.{success, refusal, refusal_at, OfFile}
use Rattle.mend.specs.Mending.{Fits, Mends, ComesOut, FirstLate, moves, numbers}

-- What is lent: a list for the new starts, and one for the moves.
pub record Lent : Type 0 where
  pub starts : List ℕ
  pub moved : List ℕ

abbrev pub lending : List ℕ → List ℕ → Lent
lending s m = record { starts = s; moved = m }

-- Each has room for every job, whether it moves or not.
pub record Room (R : Recorder) (lent : Lent) : Type 0 where
  pub starts : jobs R ≤ length lent.starts
  pub moved : 3 * jobs R ≤ length lent.moved

-- 17 says that no schedule fits, and names the first job that is late where the jobs come out. What is lent beyond the starts and the moves stays as it was.
pub data MendOf (given : List ℕ) (lent : Lent) (R : Recorder) : Answer → Lent → Type 0 where
  unequal : (length given ≡ jobs R → ⊥) → MendOf given lent R (refusal 14) lent
  short : length given ≡ jobs R → (Room R lent → ⊥) → MendOf given lent R (refusal 15) lent
  late : {s : List ℕ} {j : ℕ} → length given ≡ jobs R → Room R lent → ((s' : List ℕ) → Fits R given s' → ⊥) → ComesOut R given s → FirstLate R s j
      → MendOf given lent R (refusal_at 17 j) lent
  mended : {s : List ℕ} → length given ≡ jobs R → Room R lent → Mends R given s
      → MendOf given lent R (success R.horizon 0 (length (moves given s (jobs R))))
      (lending (s ++ drop (jobs R) lent.starts)
      (numbers (moves given s (jobs R)) ++ drop (3 * length (moves given s (jobs R))) lent.moved))

abbrev pub Mended : List ℕ → List ℕ → Lent → Answer → Lent → Type 0
Mended file given lent a after = OfFile file lent (MendOf given lent) a after
