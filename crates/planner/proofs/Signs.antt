-- A margin that is not negative is a number of 64 bits: what is printed of it, and what crosses.
use mathlib.Core.Path.{◌≡◌}
use mathlib.Core.Bool.{false, true≢false}
use native.Mathlib.Omega.{arith}
use lib.Dec.{T}
use lib.IntN.{ℤ, pos, negsuc, nat_abs}
use lib.Signed.{lt_z, non_neg}
use mir.Syntax.{w32, w64}
use mir.Val.{Fits, SFits}

pub size_pos : (z : ℤ) → SFits w32 z → lt_z z (pos 0) ≡ false → T (non_neg z) × Fits w64 (nat_abs z)
size_pos (pos n) f e = (tt, record { fits = omega (arith, f.sfits) })
size_pos (negsuc n) f e = absurd (true≢false e)
