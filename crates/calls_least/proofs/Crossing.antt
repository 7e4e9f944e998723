-- What `least_plan` promises, as it crosses to C.
use mathlib.Core.Path.{◌≡◌}
use mathlib.Core.List.{List, ◌++◌}
use Prim.Native.Nat.{ℕ, ◌≤◌}
use native.Mathlib.Omega.{arith}
use lib.ListN.{length, take, drop}
use Rattle.schedule.specs.declared.Recorder.{Recorder}
use Rattle.schedule.specs.Quantities.{jobs}
use Rattle.planner.specs.declared.Answer.{Answer}
use Rattle.planner.specs.Promises.{stops, passes, found}
use Rattle.planner.proofs.Refusing.{unless_enough}
use Rattle.calls.proofs.Crossing.{front_same}
use Rattle.cheapest.specs.Promises.{LeastOf, CountedLeastOf, OverOrLeast}
use Rattle.cheapest.specs.Promises.{CountedOrLeast as Counted}

-- Any list with room gets the same answer and the same starts.
pub least_alike : (budget : ℕ) (R : Recorder) (own own' : List ℕ) (a : Answer) (after : List ℕ) → jobs R ≤ length own → jobs R ≤ length own'
    → LeastOf budget own R a after → (after' : List ℕ) × LeastOf budget own' R a after' × (a.number ≡ 0 → take (jobs R) after' ≡ take (jobs R) after)
least_alike budget R own own' a after h h' (stops s) = absurd (omega arith)
least_alike budget R own own' a after h h' (passes s (stops f)) = (own', unless_enough h' (stops f), λ (z : ◌≡◌ {A = ℕ} 19 0). absurd (omega arith))
least_alike budget R own own' a after h h' (passes s (passes n (OverOrLeast.over b))) = (own', unless_enough h' (passes n (OverOrLeast.over b)), λ (z : ◌≡◌ {A = ℕ} 20 0). absurd (omega arith))
least_alike budget R own own' a after h h' (passes r (passes n (OverOrLeast.least (found {s = s} f)))) =
    (s ++ drop (jobs R) own', unless_enough h' (passes n (OverOrLeast.least (found f))), λ z. front_same R s (drop (jobs R) own) (drop (jobs R) own') f.feasible.one_each)

-- The same of the promise by the count.
pub counted_alike : (budget : ℕ) (R : Recorder) (own own' : List ℕ) (a : Answer) (after : List ℕ) → jobs R ≤ length own → jobs R ≤ length own'
    → CountedLeastOf budget own R a after → (after' : List ℕ) × CountedLeastOf budget own' R a after' × (a.number ≡ 0 → take (jobs R) after' ≡ take (jobs R) after)
counted_alike budget R own own' a after h h' (stops s) = absurd (omega arith)
counted_alike budget R own own' a after h h' (passes s (stops f)) = (own', unless_enough h' (stops f), λ (z : ◌≡◌ {A = ℕ} 19 0). absurd (omega arith))
counted_alike budget R own own' a after h h' (passes s (passes n (Counted.over j b))) = (own', unless_enough h' (passes n (Counted.over j b)), λ (z : ◌≡◌ {A = ℕ} 20 0). absurd (omega arith))
counted_alike budget R own own' a after h h' (passes r (passes n (Counted.least (found {s = s} f)))) =
    (s ++ drop (jobs R) own', unless_enough h' (passes n (Counted.least (found f))), λ z. front_same R s (drop (jobs R) own) (drop (jobs R) own') f.feasible.one_each)
