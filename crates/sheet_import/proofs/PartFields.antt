-- A field as a part number: padded with spaces to eight bytes, and never one if it is longer.
use mathlib.Core.Path.{◌≡◌, ap, ◌∙◌}
use mathlib.Core.Bool.{true, false}
use mathlib.Core.List.{List, ◌++◌}
use Prim.Native.Nat.{ℕ, zero, suc, ◌+◌, ◌-◌, ◌<◌, ◌≤◌}
use native.Mathlib.Omega.{arith}
use lib.ListN.{length, drop, replicate, length-append, length-replicate}
use Rattle.base.specs.Lists.{padded}
use Rattle.catalogue.specs.Parts.{space, well_formed}
use Rattle.catalogue.proofs.PartNumbers.{formed}
use Rattle.catalogue.proofs.Scanning.{formed_only_eight}

drop_fill : (n m z : ℕ) → drop n (replicate m z) ≡ replicate (m - n) z
drop_fill zero m z = let e : m - 0 ≡ m = omega arith in rw e
drop_fill (suc n) zero z = let e : 0 - suc n ≡ 0 = omega arith in rw e
drop_fill (suc n) (suc m) z = let e : suc m - suc n ≡ m - n = omega arith in rw e (drop_fill n m z)

-- A field copied over eight spaces.
pub padded_is : (f : List ℕ) → f ++ drop (length f) (replicate 8 space) ≡ padded 8 space f
unfolding padded
padded_is f = ap (λ (l : List ℕ). f ++ l) (drop_fill (length f) 8 space)

padded_long : (f : List ℕ) → length (padded 8 space f) ≡ length f + (8 - length f)
unfolding padded
padded_long f = length-append f (replicate (8 - length f) space) ∙ ap (λ (n : ℕ). length f + n) (length-replicate (8 - length f) space)

-- Over eight bytes is no part number.
pub long_bad : (f : List ℕ) → 8 < length f → well_formed (padded 8 space f) ≡ false
long_bad f h = formed_only_eight (padded 8 space f) (λ e. omega (arith, padded_long f, e))

pub formed_short : (f : List ℕ) → well_formed (padded 8 space f) ≡ true → length f ≤ 8
formed_short f e = omega (arith, padded_long f, (formed (padded 8 space f) e).0)
