-- The record that is looked up.
use mathlib.Core.Path.{◌≡◌}
use mathlib.Core.Bool.{true, false}
use mathlib.Core.List.{List, [], ◌∷◌}
use Prim.Native.Nat.{ℕ, zero, suc, ◌<◌}
use native.Mathlib.Omega.{arith}
use lib.ListN.{length, get_or}
use Rattle.base.specs.Bytes.{same}
use Rattle.catalogue.specs.Parts.{Part, numbers, record_of}
use Rattle.catalogue.specs.Faults.{no_part}

-- The record looked up is that of the first part with the number.
pub record_at_lem : (ps : List Part) (n : List ℕ) (k : ℕ) → k < length ps → ((i : ℕ) → i < k → same n (get_or (numbers ps) i []) ≡ false)
    → same n (get_or (numbers ps) k []) ≡ true → record_of ps n ≡ (get_or ps k no_part).device
record_at_lem [] n k h o e = absurd (omega arith)
record_at_lem (p ∷ ps) n zero h o e = rw e
record_at_lem (p ∷ ps) n (suc k) h o e = rw (o 0 (omega arith)) (record_at_lem ps n k (omega arith) (λ i l. o (suc i) (omega arith)) e)
