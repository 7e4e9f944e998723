-- Every answer but 20 is the answer under each larger budget too: of every search that counts its vertices.
use mathlib.Core.Path.{◌≡◌, refl}
use mathlib.Core.List.{List}
use Prim.Native.Nat.{ℕ, ◌≤◌}
use native.Mathlib.Omega.{arith}
use Rattle.schedule.specs.declared.Recorder.{Recorder}
use Rattle.schedule.specs.Visiting.{vertices}
use Rattle.planner.specs.declared.Answer.{Answer}
use Rattle.planner.specs.Promises.{stops, passes, OfFile, refused, read, Counted, GivesLeast, Searched}

-- The budget was enough to tell.
abbrev pub Enough : Answer → Type 0
Enough a = a.number ≡ 20 → ⊥

module _ (count : Recorder → ℕ) (Rest : Recorder → Answer → List ℕ → Type 0) (file : List ℕ) (b b' : ℕ) (lent : List ℕ) where
  larger : (R : Recorder) {a : Answer} {l : List ℕ} → b ≤ b' → Enough a
      → Counted b (count R) lent R (Rest R) a l → Counted b' (count R) lent R (Rest R) a l
  larger R h n (stops s) = stops s
  larger R h n (passes s (stops o)) = absurd (n refl)
  larger R h n (passes s (passes o r)) = passes s (passes (λ o'. o (omega arith)) r)

  pub larger_counted : {a : Answer} {l : List ℕ} → b ≤ b' → Enough a
      → OfFile file lent (λ R. Counted b (count R) lent R (Rest R)) a l → OfFile file lent (λ R. Counted b' (count R) lent R (Rest R)) a l
  larger_counted h n (refused r) = refused r
  larger_counted h n (read {R = R} r t) = read r (larger R h n t)

pub larger_budget : (file : List ℕ) (b b' : ℕ) (lent : List ℕ) {a : Answer} {l : List ℕ} → b ≤ b' → Enough a
    → Searched file b lent a l → Searched file b' lent a l
larger_budget file b b' lent = larger_counted vertices (λ R. GivesLeast R (vertices R) lent) file b b' lent
