-- Two clauses of the rules change nothing, since before each completion the invariant holds.
use mathlib.Core.Path.{◌≡◌, refl, ◌∙◌}
use mathlib.Core.Bool.{Bool, true, false, cond, not, ◌&&◌, ◌||◌, and-false}
use mathlib.Core.List.{List, [], ◌∷◌}
use mathlib.Core.Logic.{by_cases}
use Prim.Native.Nat.{ℕ, ◌≤◌, ◌<◌}
use native.Mathlib.Decide.{ℕ_discrete}
use native.Mathlib.Omega.{arith}
use lib.Dec.{leb, ltb}
use borrow.Author.Tests.{lt-leb}
use Rattle.base.proofs.Cases.{test_cases}
use Rattle.device.specs.Row as Row
use Rattle.schedule.specs.declared.Recorder.{Recorder}
use Rattle.schedule.specs.Quantities.{device, uses}
use Rattle.schedule.specs.Listing.{Place}
use Rattle.schedule.proofs.Runs.{InTurn}
use Rattle.steps.specs.declared.State.{State}
use Rattle.steps.specs.declared.State.TheVariants.{Working, Asleep, Down, Up}
use Rattle.steps.specs.Stepping.{move_time, Rule, at_start, at_end, end_of, next_uses, pause, ruled, starts}
use Rattle.steps.proofs.ByJobs.{starts_before, starts_at}
use Rattle.steps.proofs.Moves.{untrue, Ran, ran_used, ran_kept, ran_slept}
use Rattle.steps.proofs.Keeps.{Settled}

-- The completion, whether this job used the device or not (rule 93): one at work that it did not use is kept for the next.
abbrev pub at_any_end : Rule
at_any_end T this next pause = at_end T true next pause

pub any_end : (T : ℕ) (this next : Bool) (pause : ℕ) {st : State} {z : Row.State} → Ran T this next pause st z
    → at_any_end T this next pause st ≡ at_end T this next pause st
any_end T true next pause h = refl
any_end T false next pause (ran_used e) = untrue e
any_end T false true pause (ran_kept e l h) = refl
any_end T false false pause (ran_kept e l h) = untrue e
any_end T false next pause (ran_slept e h) = refl

-- The order of a completion and a start at one tick (rule 94): without a pause the completion does nothing, before the start or after it.
module _ (T : ℕ) (moves : 1 ≤ T) where
  end_work : (this next : Bool) → at_end T this next 0 Working ≡ Working
  end_work this next = rw (lt-leb T 0 moves, and-false, and-false)

  end_nothing : (this next : Bool) {st : State} {z : Row.State} → Ran T this next 0 st z → (this' next' : Bool) (pause' : ℕ)
      → at_end T this next 0 (at_start T this' next' pause' st) ≡ at_start T this' next' pause' (at_end T this next 0 st)
  end_nothing this next (ran_used e) this' next' pause' =
      rw (end_work this next)
      (test_cases (λ b. at_end T this next 0 (cond b (Down T) Working) ≡ cond b (Down T) Working) (not this' && (not next' || leb T pause'))
      (λ q. refl) (λ q. end_work this next))
  end_nothing this next (ran_kept e l h) this' next' pause' =
      rw (end_work this next)
      (test_cases (λ b. at_end T this next 0 (cond b (Down T) Working) ≡ cond b (Down T) Working) (not this' && (not next' || leb T pause'))
      (λ q. refl) (λ q. end_work this next))
  end_nothing this true (ran_slept e h) this' next' pause' = absurd (omega (arith, e refl))
  end_nothing this false (ran_slept e h) this' next' pause' =
      test_cases (λ b. at_end T this false 0 (cond b (Up T) Asleep) ≡ cond b (Up T) Asleep) (next' && ltb pause' T) (λ q. refl) (λ q. refl)

module _ (R : Recorder) (k : ℕ) (moves : 1 ≤ move_time (device R k)) where
  pub settled_any : (p : Place) (r : List Place) (st : State) → Settled R k p r st → ruled R k at_any_end p r st ≡ ruled R k at_end p r st
  settled_any p r st h = any_end (move_time (device R k)) (uses R k p.job) (next_uses R k r) (pause R k p r) h.1

  pub settled_first : (p : Place) (r : List Place) (st : State) → InTurn R (end_of R k p) R.horizon r → Settled R k p r st
      → ruled R k at_end p r (starts R k at_start r (end_of R k p) st) ≡ starts R k at_start r (end_of R k p) (ruled R k at_end p r st)
  unfolding starts
  settled_first p [] st w h = refl
  settled_first p (q ∷ r) st w h =
      by_cases (ℕ_discrete q.start (end_of R k p))
      (λ e. at_once e)
      (λ ne.
      let v : InTurn R q.start R.horizon (q ∷ r) = (omega arith, w.1, w.2) in
      let l : end_of R k p < q.start = omega (arith, w.0, ne) in
      rw (
        starts_before R k at_start at_end (q ∷ r) q.start R.horizon (end_of R k p) st v l,
        starts_before R k at_start at_end (q ∷ r) q.start R.horizon (end_of R k p) (ruled R k at_end p (q ∷ r) st) v l,
      ))
    where
      now : (z : State) → q.start ≡ end_of R k p → starts R k at_start (q ∷ r) (end_of R k p) z ≡ ruled R k at_start q r z
      now z e =
          rw (← e) (starts_at R k at_start at_end q r z ∙ starts_before R k at_start at_end r (end_of R k q) R.horizon q.start (ruled R k at_start q r z) w.2 (omega (arith, w.1)))

      at_once : q.start ≡ end_of R k p → ruled R k at_end p (q ∷ r) (starts R k at_start (q ∷ r) (end_of R k p) st) ≡ starts R k at_start (q ∷ r) (end_of R k p) (ruled R k at_end p (q ∷ r) st)
      at_once e =
          let none : pause R k p (q ∷ r) ≡ 0 = omega arith in
          rw (now st e, now (ruled R k at_end p (q ∷ r) st) e)
          (rw none (end_nothing (move_time (device R k)) moves (uses R k p.job) (uses R k q.job) (rw none at h.1) (uses R k q.job) (next_uses R k r) (pause R k q r)))
