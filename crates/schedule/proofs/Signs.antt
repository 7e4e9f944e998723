-- A difference of two numbers, signed: the machine's, and that it fits.
use mathlib.Core.Path.{◌≡◌, refl}
use Prim.Native.Nat.{ℕ, zero, suc, ◌<◌, ◌^◌}
use native.Mathlib.Omega.{arith}
use native.Mathlib.Nat.{add-zero, sub-zero}
use lib.Dec.{ltb}
use borrow.Author.Tests.{le-ltb}
use lib.IntN.{pos, sub_ℕ, ◌-ℤ◌}
use mir.Syntax.{w32}
use mir.Val.{SFits, to_z}
use mir.Facts.{to_z_pos}
use Rattle.base.proofs.Cases.{cond_cases}

sub_pos : (a b : ℕ) → pos a -ℤ pos b ≡ sub_ℕ a b
sub_pos a zero = rw (le-ltb a 0 (omega arith), add-zero, sub-zero)
sub_pos a (suc b) = refl

-- What the machine takes from what.
pub difference : (a b : ℕ) → a < 2 ^ 31 → b < 2 ^ 31 → to_z w32 a -ℤ to_z w32 b ≡ sub_ℕ a b
difference a b ha hb = rw (to_z_pos w32 ha, to_z_pos w32 hb) (sub_pos a b)

pub difference_fits : (a b : ℕ) → a < 2 ^ 31 → b < 2 ^ 31 → SFits w32 (sub_ℕ a b)
difference_fits a b ha hb =
    cond_cases (SFits w32) (ltb a b) (λ e. record { sfits = omega arith }) (λ e. record { sfits = omega arith })
