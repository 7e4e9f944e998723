-- How the mended schedule is found: the jobs take their places one after the other, in the order of their given starts (rule 67). Contracts inside the crate
-- speak of it; the promise does not.
use Rattle.std.specs.Prelude.{◌≡◌, Result, Ok, Err, cond, List, [], ◌∷◌, ℕ, zero, suc, ◌+◌, max, ltb, set, replicate}
use Rattle.std.proofs.Math.Option.{Option, none, some}
use Rattle.base.specs.declared.JobNumber.{JobNumber}
use Rattle.base.specs.Lists.{padded, up_from, remove}
use Rattle.schedule.specs.declared.Recorder.{Recorder}
use Rattle.schedule.specs.Quantities.{jobs, release, deadline, run}
use Rattle.schedule.specs.Listing.{start, soonest}
use Rattle.mend.specs.Mending.{Mends, ComesOut, FirstLate}

module _ (R : Recorder) (given : List ℕ) where
  -- Where job j takes its place, when the job before it ends at t.
  abbrev pub latest : ℕ → ℕ → ℕ
  latest t j = max (start given j) (max (release R j) t)

  -- The jobs u wait, m in number, and take their places in turn from t on; their starts are written into s.
  unfoldable pub settle : (m t : ℕ) → List ℕ → List ℕ → List ℕ
  settle zero t u s = s
  settle (suc m) t [] s = s
  settle (suc m) t (i ∷ u) s = let j = soonest given i u in let x = latest t j in settle m (x + run R j) (remove j (i ∷ u)) (set s j x)

  -- The first of them that ends after its deadline.
  unfoldable pub late_of : (m t : ℕ) → List ℕ → Option ℕ
  late_of zero t u = none
  late_of (suc m) t [] = none
  late_of (suc m) t (i ∷ u) =
      let j = soonest given i u in
      let e = latest t j + run R j in
      cond (ltb (deadline R j) e) (some j) (late_of m e (remove j (i ∷ u)))

  -- All jobs, from tick 0 on.
  unfoldable pub mended : List ℕ
  mended = settle (jobs R) 0 (up_from 0 (jobs R)) (replicate (jobs R) 0)

  abbrev pub first_late : Option ℕ
  first_late = late_of (jobs R) 0 (up_from 0 (jobs R))

-- What `settle` of the code gives: the mended schedule, in an array, or the first late job.
abbrev pub Settles : Recorder → List ℕ → Result (List ℕ) JobNumber → Type 0
Settles R given (Ok new) = (s : List ℕ) × Mends R given s × (new ≡ padded 16 0 s)
Settles R given (Err j) = (s : List ℕ) × ComesOut R given s × FirstLate R s j.0
