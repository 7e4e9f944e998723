-- The size of a negative number fits its place.
use mathlib.Core.Path.{◌≡◌}
use mathlib.Core.Bool.{true}
use native.Mathlib.Omega.{arith}
use lib.Dec.{T}
use lib.IntN.{ℤ, pos, negsuc, nat_abs, ◌-ℤ◌}
use lib.Signed.{lt_z, non_neg}
use borrow.Author.Tests.{ltb-true}
use mir.Syntax.{w32, w64}
use mir.Val.{Fits, SFits}

pub record Negated (z : ℤ) : Type 0 where
  pub wide : SFits w64 z
  pub fits : SFits w64 (pos 0 -ℤ z)
  pub size : T (non_neg (pos 0 -ℤ z)) × Fits w64 (nat_abs (pos 0 -ℤ z))

pub size_neg : (z : ℤ) → SFits w32 z → lt_z z (pos 0) ≡ true → Negated z
size_neg (pos n) f e = absurd (omega (arith, ltb-true n 0 e))
size_neg (negsuc n) f e =
    record {
      wide = record { sfits = omega (arith, f.sfits) };
      fits = record { sfits = omega (arith, f.sfits) };
      size = (tt, record { fits = omega (arith, f.sfits) });
    }
