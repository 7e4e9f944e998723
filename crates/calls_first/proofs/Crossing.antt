-- What `first_plan` promises, as it crosses to C.
use mathlib.Core.Path.{◌≡◌}
use mathlib.Core.List.{List, ◌++◌}
use Prim.Native.Nat.{ℕ, ◌≤◌}
use native.Mathlib.Omega.{arith}
use lib.ListN.{length, take, drop}
use Rattle.schedule.specs.declared.Recorder.{Recorder}
use Rattle.schedule.specs.Quantities.{jobs}
use Rattle.planner.specs.declared.Answer.{Answer}
use Rattle.first.specs.Promises.{FirstOf}
use Rattle.planner.specs.Promises.{stops, passes, gives_such}
use Rattle.planner.proofs.Refusing.{unless_enough}
use Rattle.calls.proofs.Crossing.{front_same}

-- Any list with room gets the same answer and the same starts.
pub first_alike : (R : Recorder) (own own' : List ℕ) (a : Answer) (after : List ℕ) → jobs R ≤ length own → jobs R ≤ length own' → FirstOf own R a after
    → (after' : List ℕ) × FirstOf own' R a after' × (a.number ≡ 0 → take (jobs R) after' ≡ take (jobs R) after)
first_alike R own own' a after h h' (stops s) = absurd (omega arith)
first_alike R own own' a after h h' (passes s (stops f)) = (own', unless_enough h' (stops f), λ (z : ◌≡◌ {A = ℕ} 19 0). absurd (omega arith))
first_alike R own own' a after h h' (passes r (passes n (gives_such {x = s} f))) =
    (s ++ drop (jobs R) own', unless_enough h' (passes n (gives_such f)), λ z. front_same R s (drop (jobs R) own) (drop (jobs R) own') f.feasible.one_each)
