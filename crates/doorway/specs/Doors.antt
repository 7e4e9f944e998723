-- What every door does (rule 74): it hands bytes to an operation and its answer back, as a call from C does, or it is shut. What is answered stands in the
-- promise of the operation; each door says which, and to what bytes it opens. proofs/Opening: a door has one outcome for every input if its operation has.
use Rattle.std.specs.Prelude.{◌≡◌, Bool, true, false, List, ◌++◌, ℕ, ◌*◌, ◌/◌, ◌%◌, ◌≤◌, length, drop}
use Rattle.tables.specs.Layout.{joined}
use Rattle.planner.specs.declared.Answer.{Answer}
use Rattle.calls.specs.Bytes.{big, starts_in}
use Rattle.calls.specs.Calls.{told}

-- A shut door returns 255 and writes nothing. An open one returns the answer's number, and its eleven bytes are in the result buffer.
pub data Door {L : Type 0} (Open : Type 0) (result : List ℕ) (lent : L) (Then : Answer → L → Type 0) : ℕ → List ℕ → L → Type 0 where
  shut : (Open → ⊥) → Door Open result lent Then 255 result lent
  answered : {a : Answer} {after : L} → Open → Then a after → Door Open result lent Then a.number (told a result) after

-- What a door opens to: a result buffer with room for the eleven bytes, and start times of two bytes each.
abbrev pub Roomy : List ℕ → Type 0
Roomy result = 11 ≤ length result

abbrev pub Paired : List ℕ → Type 0
Paired starts = length starts % 2 ≡ 0

abbrev pub starts_of : List ℕ → List ℕ
starts_of bytes = starts_in bytes (length bytes / 2)

-- The first n values of a function, four bytes each; what is lent beyond stays as it was.
abbrev pub fours : (ℕ → ℕ) → ℕ → List ℕ → List ℕ
fours f n lent = joined (λ i. big 4 (f i)) n ++ drop (n * 4) lent

-- What a test in the code tells.
abbrev pub Decides : Bool → Type 0 → Type 0
Decides b P = (b ≡ true → P) × (b ≡ false → P → ⊥)
