-- Laws of decimal numbers: digits written and read back.
use mathlib.Core.Path.{◌≡◌, refl, ◌∙◌}
use mathlib.Core.Bool.{Bool, true}
use mathlib.Core.List.{List, [], ◌∷◌, ◌++◌}
use Prim.Native.Nat.{ℕ, zero, suc, ◌+◌, ◌-◌, ◌*◌, ◌/◌, ◌%◌, ◌<◌, ◌≤◌}
use native.Mathlib.Omega.{arith}
use lib.ListN.{length, get_or, length-append, get_or-append}
use lib.Dec.{leb, ltb}
use borrow.Author.Tests.{ltb-true, ltb-false, leb-true, le-leb, lt-ltb}
use Rattle.base.proofs.Cases.{cond_cases, both}
use Rattle.base.proofs.Every.{Every}
use Rattle.base.specs.Lists.{all}
use Rattle.text.specs.Numerals.{digit, value_from, value_of, is_number, digits, digits_of}

-- What k + 1 digits can say.
abbrev pub top : ℕ → ℕ
top zero = 10
top (suc k) = top k * 10

pub all_append : {A : Type 0} (t : A → Bool) (s u : List A) → all t s ≡ true → all t u ≡ true → all t (s ++ u) ≡ true
all_append t [] u h k = k
all_append t (x ∷ s) u h k = let p = both (t x) (all t s) h in rw p.0 (all_append t s u p.1 k)

pub value_snoc : (v : ℕ) (s : List ℕ) (b : ℕ) → value_from v (s ++ b ∷ []) ≡ value_from v s * 10 + (b - 48)
unfolding value_from
value_snoc v [] b = refl
value_snoc v (c ∷ s) b = value_snoc (v * 10 + (c - 48)) s b

-- The value of the digits of n is n.
pub value_digits : (k n : ℕ) → n < top k → value_of (digits k n) ≡ n
unfolding digits value_from
value_digits zero n h = omega arith
value_digits (suc k) n h =
    cond_cases (λ (l : List ℕ). value_of l ≡ n) (ltb n 10)
    (λ e. omega arith)
    (λ e. value_snoc 0 (digits k (n / 10)) (48 + n % 10) ∙ back (value_digits k (n / 10) (omega arith)))
  where
    back : {v : ℕ} → v ≡ n / 10 → v * 10 + (48 + n % 10 - 48) ≡ n
    back e = omega arith

digit_of : (n : ℕ) → n < 10 → digit (48 + n) ≡ true
digit_of n h =
    let lo : leb 48 (48 + n) ≡ true = le-leb 48 (48 + n) (omega arith) in
    let hi : leb (48 + n) 57 ≡ true = le-leb (48 + n) 57 (omega arith) in
    rw (lo, hi)

digit_only : (n : ℕ) → n < 10 → all digit ((48 + n) ∷ []) ≡ true
digit_only n h = rw (digit_of n h)

-- They are digits, at least one and at most k + 1.
pub all_digits : (k n : ℕ) → n < top k → all digit (digits k n) ≡ true
unfolding digits
all_digits zero n h = digit_only n h
all_digits (suc k) n h =
    cond_cases (λ (l : List ℕ). all digit l ≡ true) (ltb n 10)
    (λ e. digit_only n (ltb-true n 10 e))
    (λ e. all_append digit (digits k (n / 10)) ((48 + n % 10) ∷ []) (all_digits k (n / 10) (omega arith)) (digit_only (n % 10) (omega arith)))

pub some_digit : (k n : ℕ) → 0 < length (digits k n)
unfolding digits
some_digit zero n = omega arith
some_digit (suc k) n =
    cond_cases (λ (l : List ℕ). 0 < length l) (ltb n 10) (λ e. omega arith)
    (λ e. rw length-append (omega arith))

pub few_digits : (k n : ℕ) → length (digits k n) ≤ suc k
unfolding digits
few_digits zero n = omega arith
few_digits (suc k) n =
    cond_cases (λ (l : List ℕ). length l ≤ suc (suc k)) (ltb n 10) (λ e. omega arith)
    (λ e. rw length-append (omega (arith, few_digits k (n / 10))))

-- No zero at the front of what is not 0.
pub no_zero : (k n : ℕ) → 0 < n → 48 < get_or (digits k n) 0 0
unfolding digits
no_zero zero n h = omega arith
no_zero (suc k) n h =
    cond_cases (λ (l : List ℕ). 48 < get_or l 0 0) (ltb n 10) (λ e. omega arith)
    (λ e. rw (get_or-append (digits k (n / 10)) ((48 + n % 10) ∷ []) 0 0 (some_digit k (n / 10)))
    (no_zero k (n / 10) (omega (arith, ltb-false n 10 e))))

-- In a field: a number of at most m, for each m.
pub is_number_lem : (m n : ℕ) → n ≤ m → n < 100000 → is_number m (digits_of n) ≡ true
is_number_lem m n h k =
    let a = lt-ltb 0 (length (digits_of n)) (some_digit 4 n) in
    let b = all_digits 4 n k in
    let c : leb (value_of (digits_of n)) m ≡ true = rw (value_digits 4 n k) (le-leb n m h) in
    rw (a, b, c)

-- An ordinary byte parts neither lines nor fields, and is no quote: these all stand before the digits.
abbrev pub Ordinary : ℕ → Type 0
Ordinary b = 48 ≤ b

pub digits_ordinary : (s : List ℕ) → all digit s ≡ true → Every Ordinary s
digits_ordinary [] h = tt
digits_ordinary (b ∷ s) h =
    let p = both (digit b) (all digit s) h in
    (leb-true 48 b (both (leb 48 b) (leb b 57) p.0).0, digits_ordinary s p.1)
