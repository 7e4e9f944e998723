-- Numbers as bytes, the high byte first (rule 70).
use Rattle.std.specs.Prelude.{List, [], ◌∷◌, ◌++◌, ℕ, zero, suc, ◌*◌, ◌/◌, ◌%◌}
use Rattle.base.specs.Bytes.{pair_at}
use Rattle.base.specs.Lists.{up_to}
use Rattle.planner.specs.declared.Answer.{Answer}

-- The last n bytes of a number.
unfoldable pub big : ℕ → ℕ → List ℕ
big zero x = []
big (suc n) x = big n (x / 256) ++ (x % 256 ∷ [])

-- The eleven bytes of an answer: job (1), horizon (2), energy (4), count (4) (rule 71).
abbrev pub eleven : Answer → List ℕ
eleven a = ((big 1 a.job.0 ++ big 2 a.horizon) ++ big 4 a.energy) ++ big 4 a.count

-- Start times as two bytes each; and the first n start times of a list of bytes.
unfoldable pub spread : List ℕ → List ℕ
spread [] = []
spread (x ∷ l) = x / 256 ∷ x % 256 ∷ spread l

abbrev pub starts_in : List ℕ → ℕ → List ℕ
starts_in s n = up_to (λ j. pair_at s (j * 2)) n
