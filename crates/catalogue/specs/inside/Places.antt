-- Where the code finds a part and a wanted number: in catalogues and lists of whole pieces, by place. Nobody need believe these: `Built` does not speak of them.
use Rattle.std.specs.Prelude.{◌≡◌, true, false, Option, Some, None, List, ℕ, ◌*◌, ◌/◌, ◌≤◌, ◌<◌, length, take, drop}
use Rattle.base.specs.Bytes.{same}

-- The number of part k.
abbrev pub number_at : List ℕ → ℕ → List ℕ
number_at s k = take 8 (drop (15 * k) s)

-- The wanted number k.
abbrev pub wanted_at : List ℕ → ℕ → List ℕ
wanted_at s k = take 8 (drop (8 * k) s)

-- k is the first part from a place on that has the number n; the number of parts where there is none.
pub record Sought (s : List ℕ) (from : ℕ) (n : List ℕ) (k : ℕ) : Type 0 where
  pub from_on : from ≤ k
  pub within : k ≤ length s / 15
  pub others : (i : ℕ) → from ≤ i → i < k → same n (number_at s i) ≡ false
  pub here : k < length s / 15 → same n (number_at s k) ≡ true

-- The same as an option.
abbrev pub SoughtOf : List ℕ → List ℕ → Option ℕ → Type 0
SoughtOf s n None = Sought s 0 n (length s / 15)
SoughtOf s n (Some k) = (k < length s / 15) × Sought s 0 n k
