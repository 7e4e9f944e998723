-- The decimal form of a number: its last digit, behind that of a tenth.
use mathlib.Core.Path.{◌≡◌, ap}
use mathlib.Core.List.{List, [], ◌∷◌, ◌++◌}
use Prim.Native.Nat.{ℕ, zero, suc, ◌+◌, ◌/◌, ◌%◌, ◌<◌, ◌≤◌}
use native.Mathlib.Omega.{arith}
use borrow.Author.Tests.{lt-ltb, le-ltb}
use Rattle.text.specs.Numerals.{digits, digits_of}
use Rattle.text.proofs.Decimal.{top}

-- More digits than there are make no difference.
digits_enough : (k n : ℕ) → n < top k → digits (suc k) n ≡ digits k n
unfolding digits
digits_enough zero n h = rw (lt-ltb n 10 h)
digits_enough (suc k) n h = rw (digits_enough k (n / 10) (omega arith))

pub digits_one : (n : ℕ) → n < 10 → digits_of n ≡ (48 + n) ∷ []
unfolding digits
digits_one n h = rw (lt-ltb n 10 h)

pub digits_more : (n : ℕ) → 10 ≤ n → n < 100000 → digits_of n ≡ digits_of (n / 10) ++ (48 + n % 10) ∷ []
unfolding digits
digits_more n h k = rw (le-ltb n 10 h) (ap (λ (l : List ℕ). l ++ (48 + n % 10) ∷ []) (sym_enough (n / 10) (omega arith)))
  where
    sym_enough : (m : ℕ) → m < 10000 → digits 3 m ≡ digits 4 m
    sym_enough m l = let e = digits_enough 3 m l in rw e
