-- What the code's tests of 25 and 24 say, and the cases of the promise that they lead to.
use mathlib.Core.Path.{◌≡◌, refl}
use mathlib.Core.Bool.{true, false}
use mathlib.Core.List.{List}
use Prim.Native.Nat.{ℕ, ◌≤◌, ◌<◌}
use native.Mathlib.Omega.{arith}
use lib.Dec.{eqb}
use lib.ListN.{length}
use borrow.Author.Tests.{eqb-true, eqb-false}
use Rattle.base.specs.Bytes.{byte_at}
use Rattle.base.specs.declared.reasons.Reason.{Reason}
use Rattle.base.specs.Reasons.{number_of}
use Rattle.base.proofs.Numbered.{some_number}
use Rattle.schedule.specs.declared.Recorder.{Recorder}
use Rattle.schedule.specs.Quantities.{jobs}
use Rattle.schedule.specs.Listing.{Feasible}
use Rattle.planner.specs.declared.Answer.{Answer}
use Rattle.planner.specs.Promises.{refusal, Unless, stops, passes, feasible}
use Rattle.stepper.specs.Promises.{Unfit, marked, unlike, Brief, StepsOf}
use Rattle.stepper.specs.inside.Fitness.{Fitness, Unlike}
use Rattle.stepper.specs.inside.Fitness as F

-- 14 and 15 are passed.
pub past : (R : Recorder) (starts lent : List ℕ) → length starts ≡ jobs R → R.devices.count ≤ length lent
    → {a : Answer} {l : List ℕ} {Rest : Answer → List ℕ → Type 0} → Rest a l
    → Unless (length starts ≡ jobs R → ⊥) (refusal 14) lent (Unless (length lent < R.devices.count) (refusal 15) lent Rest) a l
past R starts lent e room r = passes (λ u. u e) (passes (λ s. omega (arith, s, room)) r)

module _ (file : List ℕ) (R : Recorder) where
  pub mark_unfit : eqb (byte_at file 0) 255 ≡ true → Unfit file R
  mark_unfit e = marked (eqb-true (byte_at file 0) 255 e)

  pub unlike_unfit : Unlike R → Unfit file R
  unlike_unfit u = unlike u.known u.unlike

  pub none_unfit : eqb (byte_at file 0) 255 ≡ false → (Unlike R → ⊥) → Unfit file R → ⊥
  none_unfit e h (marked m) = eqb-false (byte_at file 0) 255 e m
  none_unfit e h (unlike {k = k} l u) = h (record { which = k; known = l; unlike = u })

  -- What is refused by the recorder; or nothing is.
  module _ (starts lent : List ℕ) (room : R.devices.count ≤ length lent) where
    refused : Feasible R starts → {n : ℕ} → Fitness file R n → 0 < n → StepsOf file starts lent R (refusal n) lent
    refused f (F.Fitness.unfit u) l = past R starts lent f.one_each room (feasible f (stops u))
    refused f (F.Fitness.brief u b) l = past R starts lent f.one_each room (feasible f (passes u (stops b)))
    refused f (F.Fitness.fit u b) l = absurd (omega arith)

    pub unfit_refused : Feasible R starts → (e : Reason) → Fitness file R (number_of e) → StepsOf file starts lent R (refusal (number_of e)) lent
    unfit_refused f e h = refused f h (some_number e)

  fit_at_0 : {n : ℕ} → Fitness file R n → n ≡ 0 → (Unfit file R → ⊥) × (Brief R → ⊥)
  fit_at_0 (F.Fitness.unfit u) q = absurd (omega arith)
  fit_at_0 (F.Fitness.brief u b) q = absurd (omega arith)
  fit_at_0 (F.Fitness.fit u b) q = (u, b)

  pub fit_passes : Fitness file R 0 → (Unfit file R → ⊥) × (Brief R → ⊥)
  fit_passes h = fit_at_0 h refl
