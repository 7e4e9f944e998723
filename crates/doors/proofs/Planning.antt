-- The sheet of a plan for more start times than a file can have jobs: it is refused, however many they are.
use mathlib.Core.Path.{◌≡◌}
use mathlib.Core.List.{List}
use Prim.Native.Nat.{ℕ, ◌<◌}
use native.Mathlib.Omega.{arith}
use lib.ListN.{length}
use Rattle.request.proofs.Accepted.{accepted_valid, refused_number}
use Rattle.planner.specs.declared.Answer.{Answer}
use Rattle.planner.specs.Promises.{Judged}
use Rattle.planner.specs.Promises as P
use Rattle.sheet.specs.Promises.{ExportedPlan}
use Rattle.sheet.specs.Promises as S
use Rattle.doorway.specs.inside.Handing.{Handed, whole, many}
use Rattle.doorway.proofs.Opening.{judged_all}

many_refused : (file s : List ℕ) → 16 < length s → {a : Answer} → Judged file s a → a.number ≡ 0 → ⊥
many_refused file s h (P.OfFile.refused {n = n} r) z = omega (arith, z, refused_number file n r)
many_refused file s h (P.OfFile.read {R = R} r (P.stops u)) z = omega (arith, z)
many_refused file s h (P.OfFile.read {R = R} r (P.passes e t)) z = e (λ q. omega (arith, q, h, (accepted_valid file R r).few_jobs))

pub plan_all : (file lent : List ℕ) {all some : List ℕ} → Handed all some → {a : Answer} {l : List ℕ} → ExportedPlan file some lent a l → ExportedPlan file all lent a l
plan_all file lent whole p = p
plan_all file lent (many h h') (S.ExportedPlan.refused j n) = S.ExportedPlan.refused (judged_all file (many h h') j) n
plan_all file lent (many {some = some} h h') (S.ExportedPlan.planned margins j z m f) = absurd (many_refused file some h j z)
