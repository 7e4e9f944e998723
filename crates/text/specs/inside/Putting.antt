-- What a function that puts bytes into lent memory does. Nobody need believe these: no promise speaks of them.
use Rattle.std.specs.Prelude.{◌≡◌, List, [], ◌∷◌, ◌++◌, ℕ, ◌+◌, length, take, drop}
use Rattle.text.specs.Grammar.{cr, lf}
use Rattle.text.specs.Numerals.{numbers_text}

-- The bytes t stand from `at` on, r is the place behind them, and all else is as it was in l.
pub record Put (t : List ℕ) (at : ℕ) (l : List ℕ) (r : ℕ) (m : List ℕ) : Type 0 where
  pub next : r ≡ at + length t
  pub is : m ≡ take at l ++ (t ++ drop r l)

-- A line of numbers.
abbrev pub line_text : List ℕ → List ℕ
line_text ns = numbers_text ns ++ cr ∷ lf ∷ []
