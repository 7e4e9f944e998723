-- Numbers in text: digits only, without a sign (rule 103).
use Rattle.std.specs.Prelude.{Bool, cond, ◌&&◌, List, [], ◌∷◌, ◌++◌, ℕ, zero, suc, ◌+◌, ◌-◌, ◌*◌, ◌/◌, ◌%◌, length, leb, ltb}
use Rattle.base.specs.Lists.{all}
use Rattle.text.specs.Grammar.{comma}

abbrev pub digit : ℕ → Bool
digit b = leb 48 b && leb b 57

-- The value of digits that stand behind a number read so far.
unfoldable pub value_from : ℕ → List ℕ → ℕ
value_from v [] = v
value_from v (b ∷ s) = value_from (v * 10 + (b - 48)) s

abbrev pub value_of : List ℕ → ℕ
value_of = value_from 0

-- Digits, one at least, with a value of at most m; zeros at the front do not count.
abbrev pub is_number : ℕ → List ℕ → Bool
is_number m f = ltb 0 (length f) && (all digit f && leb (value_of f) m)

-- A number in decimal, without zeros at the front, in at most k + 1 digits.
unfoldable pub digits : ℕ → ℕ → List ℕ
digits zero n = (48 + n) ∷ []
digits (suc k) n = cond (ltb n 10) ((48 + n) ∷ []) (digits k (n / 10) ++ (48 + n % 10) ∷ [])

-- A number of 16 bits has five digits at most.
abbrev pub digits_of : ℕ → List ℕ
digits_of = digits 4

-- Numbers with commas between them.
abbrev pub numbers_text : List ℕ → List ℕ
numbers_text [] = []
numbers_text (n ∷ []) = digits_of n
numbers_text (n ∷ m ∷ ns) = digits_of n ++ comma ∷ numbers_text (m ∷ ns)
