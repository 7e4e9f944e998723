-- Two budgets and two memories: no answer of `least_plan` but 20 hangs on them, and with a budget that covers the vertices of the visiting order none does.
use mathlib.Core.Path.{◌≡◌, refl}
use mathlib.Core.List.{List}
use Prim.Native.Nat.{ℕ, ◌≤◌}
use native.Mathlib.Omega.{arith}
use Rattle.schedule.specs.declared.Recorder.{Recorder}
use Rattle.schedule.specs.Visiting.{vertices}
use Rattle.planner.specs.declared.Answer.{Answer}
use Rattle.planner.specs.Promises.{stops, passes, Reads, refused, read}
use Rattle.planner.proofs.Larger.{Enough}
use Rattle.cheapest.specs.Promises.{over, least, CountedLeastOf, CountedLeastPlanned, LeastPlannedIn}
use Rattle.cheapest.proofs.Only.{counted_only_least_plan, counted_all_enough}

-- Every answer but 20 is an answer under each other budget too.
any_budget : (b b' : ℕ) (lent : List ℕ) (R : Recorder) {a : Answer} {l : List ℕ} → Enough a → CountedLeastOf b lent R a l → CountedLeastOf b' lent R a l
any_budget b b' lent R n (stops h) = stops h
any_budget b b' lent R n (passes h (stops f)) = passes h (stops f)
any_budget b b' lent R n (passes h (passes f (over j o))) = absurd (n refl)
any_budget b b' lent R n (passes h (passes f (least g))) = passes h (passes f (least g))

pub other_budget : (file : List ℕ) (b b' : ℕ) (lent : List ℕ) {a : Answer} {l : List ℕ} → Enough a → CountedLeastPlanned file b lent a l → CountedLeastPlanned file b' lent a l
other_budget file b b' lent n (refused r) = refused r
other_budget file b b' lent n (read {R = R} r t) = read r (any_budget b b' lent R n t)

-- Two memories, and two budgets: one answer, and one state of the lent list, where neither is given up;
pub two_memories : (file : List ℕ) (b b' : ℕ) (memory memory' lent : List ℕ) {a a' : Answer} {m m' l l' : List ℕ}
    → LeastPlannedIn file b memory lent a m l → LeastPlannedIn file b' memory' lent a' m' l' → Enough a → Enough a' → (a ≡ a') × (l ≡ l')
two_memories file b b' memory memory' lent p p' = counted_only_least_plan file b b' lent p.0 p'.0

-- and neither is, where the smaller budget covers the vertices of the visiting order.
pub covered_same : (file : List ℕ) (b b' : ℕ) (memory memory' lent : List ℕ) {a a' : Answer} {m m' l l' : List ℕ} (R : Recorder) → Reads file R
    → vertices R ≤ b → b ≤ b' → LeastPlannedIn file b memory lent a m l → LeastPlannedIn file b' memory' lent a' m' l' → (a ≡ a') × (l ≡ l')
covered_same file b b' memory memory' lent R r h i p p' =
    two_memories file b b' memory memory' lent p p' (counted_all_enough file b lent R r h p.0) (counted_all_enough file b' lent R r (omega (arith, h, i)) p'.0)
