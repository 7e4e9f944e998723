-- The invariant along the jobs of a schedule, and what changes nothing where it holds.
use mathlib.Core.Path.{◌≡◌, refl}
use mathlib.Core.Bool.{Bool, true, false, ◌&&◌, ◌||◌, and-false}
use mathlib.Core.List.{List, [], ◌∷◌, ◌++◌}
use Prim.Native.Nat.{ℕ, ◌+◌, ◌-◌, ◌≤◌, ◌<◌}
use native.Mathlib.Omega.{arith}
use lib.ListN.{replicate}
use borrow.Author.Tests.{le-leb, lt-ltb, le-ltb}
use Rattle.device.specs.Row.{Goes, pattern}
use Rattle.device.specs.Row as Row
use Rattle.device.proofs.Pattern.{pattern_split, pattern_const, pattern_alike}
use Rattle.schedule.specs.declared.Recorder.{Recorder}
use Rattle.schedule.specs.Quantities.{device, run, uses}
use Rattle.schedule.specs.Listing.{Place, used}
use Rattle.schedule.proofs.Runs.{InTurn, turn_front}
use Rattle.schedule.proofs.Gaps.{used_before_lem}
use Rattle.steps.specs.declared.State.{State}
use Rattle.steps.specs.Stepping.{move_time, Rule, at_start, at_end, end_of, next_uses, next_start, pause, ruled}
use Rattle.steps.specs.inside.Running.{later}
use Rattle.steps.proofs.ByJobs.{jobs_row, jobs_last, ran, ended, Along}
use Rattle.steps.proofs.Moves.{Ready, Ended, Ran, start_keeps, end_keeps, goes_append, pause_keeps, run_keeps}

-- Every job of the places lasts at least T.
abbrev pub Long : Recorder → ℕ → List Place → Type 0
Long R T [] = Unit {0}
Long R T (p ∷ r) = (T ≤ run R p.job) × Long R T r

-- What holds before each completion.
abbrev pub Settled : Recorder → ℕ → Place → List Place → State → Type 0
Settled R k p r st = (z : Row.State) × Ran (move_time (device R k)) (uses R k p.job) (next_uses R k r) (pause R k p r) st z

-- Job by job, and where the row ends.
pub record Kept (R : Recorder) (k : ℕ) (a : ℕ) (r : List Place) (st : State) (z : Row.State) : Type 0 where
  pub last : Row.State
  pub goes : Goes (device R k) z (pattern (used R k r) a (R.horizon - a)) (jobs_row R k at_start at_end a r st) last
  pub ready : Ready false (jobs_last R k at_start at_end a r st) last
  pub along : Along R k at_start at_end (Settled R k) a r st

module _ (R : Recorder) (k : ℕ) where
  -- ---- the ticks that the places use: those of a job that uses the device

  used_in_lem : (p : Place) (r : List Place) (h t : ℕ) → InTurn R (end_of R k p) h r → p.start ≤ t → t < end_of R k p → used R k (p ∷ r) t ≡ uses R k p.job
  unfolding used
  used_in_lem p r h t w l m =
      rw (le-leb p.start t l, lt-ltb t (end_of R k p) m, used_before_lem R k r (end_of R k p) h t w m) (plain (uses R k p.job))
    where
      plain : (b : Bool) → ((b && true) || false) ≡ b
      plain true = refl
      plain false = refl

  used_after : (p : Place) (r : List Place) (t : ℕ) → end_of R k p ≤ t → used R k (p ∷ r) t ≡ used R k r t
  unfolding used
  used_after p r t l = rw (le-ltb t (end_of R k p) l, and-false, and-false)

  uses_job : (p : Place) (r : List Place) (a : ℕ) → InTurn R a R.horizon (p ∷ r)
      → pattern (used R k (p ∷ r)) a (R.horizon - a)
      ≡ replicate (p.start - a) false ++ (replicate (run R p.job) (uses R k p.job) ++ pattern (used R k r) (end_of R k p) (R.horizon - end_of R k p))
  uses_job p r a w =
      let c = run R p.job in
      let n = R.horizon - end_of R k p in
      let e : R.horizon - a ≡ p.start - a + (c + n) = omega (arith, w.0, turn_front R [] r (end_of R k p) R.horizon w.2) in
      let to : a + (p.start - a) ≡ p.start = omega (arith, w.0) in
      rw (
        e,
        pattern_split (used R k (p ∷ r)) a (p.start - a) (c + n),
        pattern_const (used R k (p ∷ r)) false a (p.start - a)
            (λ t l m. used_before_lem R k (p ∷ r) p.start R.horizon t (omega arith, w.1, w.2) (omega (arith, w.0))),
        to,
        pattern_split (used R k (p ∷ r)) p.start c n,
        pattern_const (used R k (p ∷ r)) (uses R k p.job) p.start c (λ t l m. used_in_lem p r R.horizon t w.2 l m),
        pattern_alike (used R k (p ∷ r)) (used R k r) (end_of R k p) n (λ t l m. used_after p r t l),
      )

  uses_none : (a : ℕ) → pattern (used R k []) a (R.horizon - a) ≡ replicate (R.horizon - a) false
  unfolding used
  uses_none a = pattern_const (used R k []) false a (R.horizon - a) (λ t l m. refl)

  -- ---- the invariant along the jobs

  module _ (some : 1 ≤ (device R k).levels) (moves : 1 ≤ move_time (device R k)) (alike : move_time (device R k) ≡ (device R k).wake) where
    abbrev T : ℕ
    T = move_time (device R k)

    pub kept : (r : List Place) (a : ℕ) (st : State) (z : Row.State) → InTurn R a R.horizon r → Long R T r
        → Ended T (next_uses R k r) (next_start R k r - a) st z → Kept R k a r st z
    unfolding jobs_row jobs_last Along
    kept [] a st z w g h =
        let x = pause_keeps (device R k) some moves alike false (R.horizon - a) h in
        record { last = x.0; goes = rw (uses_none a) x.1; ready = x.2; along = tt }
    kept (p ∷ r) a st z w g h =
        let this = uses R k p.job in
        let next = next_uses R k r in
        let x = pause_keeps (device R k) some moves alike this (p.start - a) h in
        let y = run_keeps (device R k) some moves alike this next (pause R k p r) (run R p.job) g.0 (start_keeps T this next (pause R k p r) x.2) in
        let v = kept r (end_of R k p) (ended R k at_start at_end p r (later (p.start - a) st)) y.0 w.2 g.1 (end_keeps T this next (pause R k p r) y.2) in
        record { last = v.last; goes = rw (uses_job p r a w) (goes_append x.1 (goes_append y.1 v.goes)); ready = v.ready; along = ((y.0, y.2), v.along) }

  -- ---- two clauses that change nothing

  -- Two rules for completions that do the same before each.
  module _ (ending : Rule) (P : Place → List Place → State → Type 0) (same : (p : Place) (r : List Place) (st : State) → P p r st → ruled R k ending p r st ≡ ruled R k at_end p r st) where
    pub row_alike : (r : List Place) (a : ℕ) (st : State) → Along R k at_start at_end P a r st → jobs_row R k at_start ending a r st ≡ jobs_row R k at_start at_end a r st
    unfolding jobs_row Along
    row_alike [] a st h = refl
    row_alike (p ∷ r) a st h =
        let before = later (p.start - a) st in
        rw (same p r (ran R k at_start at_end p r before) h.0, row_alike r (end_of R k p) (ended R k at_start at_end p r before) h.1)

  pub along_map : (P Q : Place → List Place → State → Type 0)
      → ((p : Place) (r : List Place) (st : State) → InTurn R (end_of R k p) R.horizon r → P p r st → Q p r st)
      → (r : List Place) (a : ℕ) (st : State) → InTurn R a R.horizon r → Along R k at_start at_end P a r st → Along R k at_start at_end Q a r st
  unfolding Along
  along_map P Q f [] a st w h = tt
  along_map P Q f (p ∷ r) a st w h =
      let before = later (p.start - a) st in
      (f p r (ran R k at_start at_end p r before) w.2 h.0, along_map P Q f r (end_of R k p) (ended R k at_start at_end p r before) w.2 h.1)
