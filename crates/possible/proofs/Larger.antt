-- Every answer but 20 is the answer under each larger budget too.
use mathlib.Core.List.{List}
use Prim.Native.Nat.{ℕ, ◌≤◌}
use Rattle.planner.specs.declared.Answer.{Answer}
use Rattle.planner.proofs.Larger.{Enough, larger_counted}
use Rattle.possible.specs.TillFound.{vertices_till_found}
use Rattle.possible.specs.Promises.{GivesFirst, Possible}

pub larger_budget : (file : List ℕ) (b b' : ℕ) (lent : List ℕ) {a : Answer} {l : List ℕ} → b ≤ b' → Enough a
    → Possible file b lent a l → Possible file b' lent a l
larger_budget file b b' lent = larger_counted vertices_till_found (λ R. GivesFirst R (vertices_till_found R) lent) file b b' lent
