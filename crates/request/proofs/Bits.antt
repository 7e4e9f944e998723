-- The bits of a device set.
use mathlib.Core.Path.{◌≡◌, ◌∙◌}
use mathlib.Core.Bool.{false}
use Prim.Native.Nat.{ℕ, ◌^◌, ◌<◌, ◌≤◌}
use native.Mathlib.Omega.{arith}
use native.Mathlib.Decide.{dec_lt}
use native.Mathlib.Nat.{div-eq_of_lt, lt_of_lt_of_le}
use lib.ListN.{get_or, get_or-eq_default}
use lib.Pow.{pow_mono}
use borrow.Author.Tests.{leb-false}
use Rattle.base.proofs.Arrays.{length_up_to, get_d_up_to}
use Rattle.request.specs.Format.{bit, set_of, lacks}

-- A set that names only devices below n has no bit from n on.
no_bit : (n set k : ℕ) → set < 2 ^ n → n ≤ k → bit set k ≡ false
no_bit n set k h l =
    let small : set < 2 ^ k = lt_of_lt_of_le h (pow_mono l) in
    rw (div-eq_of_lt small)

pub known_bits : (n set k : ℕ) → lacks n set ≡ false → n ≤ k → get_or (set_of set) k false ≡ false
unfolding lacks
known_bits n set k e l =
    let h : set < 2 ^ n = leb-false (2 ^ n) set e in
    elim (dec_lt k 8) [
      | yes b ↦ get_d_up_to (bit set) 8 k false b ∙ no_bit n set k h l
      | no b ↦ get_or-eq_default (set_of set) false (rw (length_up_to (bit set) 8) (omega arith))
    ]
