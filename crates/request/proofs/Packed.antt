-- Laws of a list of jobs in an array: one job more, what a task releases, and that a list that fits is held as it is.
use mathlib.Core.Path.{◌≡◌, ◌∙◌}
use mathlib.Core.Bool.{Bool, true, false, cond}
use mathlib.Core.List.{List, [], ◌∷◌, ◌++◌, append-nil, append_assoc}
use Prim.Native.Nat.{ℕ, ◌+◌, ◌*◌, ◌%◌, ◌<◌, ◌≤◌, min}
use native.Mathlib.Omega.{arith}
use native.Mathlib.Numerals.{add-one}
use native.Mathlib.Decide.{dec_lt}
use lib.ListN.{length, length-append}
use lib.Seq.{take_all}
use lib.Dec.{eqb}
use borrow.Author.Tests.{lt-ltb, le-ltb}
use Rattle.base.proofs.Arrays.{padded_more, padded_full}
use Rattle.schedule.specs.declared.Job.{Job}
use Rattle.tables.specs.declared.TaskRecord.{TaskRecord}
use Rattle.tables.specs.Records.{task_at}
use Rattle.request.specs.Format.{job_of, released, released_at, unfolded, vacant_job, jobs_held}
use Rattle.request.specs.inside.Held.{packed, pushed, released_to}

push_small : (l : List Job) (j : Job) → length l < 16 → pushed (packed l) j ≡ packed (l ++ (j ∷ []))
unfolding packed pushed
push_small l j h =
    let m : min (length l) 17 ≡ length l = omega arith in
    let n : min (length l + 1) 17 ≡ length l + 1 = omega arith in
    rw (m, lt-ltb _ _ h, padded_more 16 vacant_job l j h, length-append, n)

push_full : (l : List Job) (j : Job) → 16 ≤ length l → pushed (packed l) j ≡ packed (l ++ (j ∷ []))
unfolding packed pushed
push_full l j h =
    let m : 16 ≤ min (length l) 17 = omega arith in
    let n : min (length l + 1) 17 ≡ 17 = omega arith in
    rw (le-ltb _ _ m, length-append, n, padded_full 16 vacant_job l j h)

pub packed_push : (l : List Job) (j : Job) → pushed (packed l) j ≡ packed (l ++ (j ∷ []))
packed_push l j = elim (dec_lt (length l) 16) [ yes h ↦ push_small l j h | no h ↦ push_full l j (omega arith) ]

release_cases : (t : Bool) (l : List Job) (j : Job) → cond t (pushed (packed l) j) (packed l) ≡ packed (l ++ cond t (j ∷ []) [])
release_cases true l j = packed_push l j
release_cases false l j = rw append-nil

packed_released : (l : List Job) (k : TaskRecord) (t : ℕ) → released_to (packed l) k t ≡ packed (l ++ released k t)
unfolding released_to
packed_released l k t = release_cases (eqb (t % k.period) 0) l (job_of k t)

module _ (s : List ℕ) (from t : ℕ) where
  pub tick_more : (l : List Job) (i : ℕ) → released_to (packed (l ++ released_at s i from t)) (task_at s (from + i * 5)) t ≡ packed (l ++ released_at s (i + 1) from t)
  unfolding released_at
  tick_more l i = packed_released _ _ _ ∙ rw (append_assoc, add-one i)

  pub unfolded_more : (n : ℕ) → unfolded s n from (t + 1) ≡ unfolded s n from t ++ released_at s n from t
  unfolding unfolded
  unfolded_more n = rw add-one

-- A list that fits is held as it is.
pub packed_held : (l : List Job) → length l ≤ 16 → packed l ≡ jobs_held l
unfolding packed
packed_held l h =
    let m : min (length l) 17 ≡ length l = omega arith in
    rw (m, take_all 16 l h)

pub packed_none : packed [] ≡ jobs_held []
packed_none = packed_held [] (omega arith)
