-- What a C program gets from `floe_first` (rule 115): as calls/specs/Calls has it of the search, with the promise of `first_plan` in the place of the search's.
-- proofs/Only: it has one outcome for every input.
use Rattle.std.specs.Prelude.{List, ℕ}
use Rattle.first.specs.Promises.{FirstOf}
use Rattle.calls.specs.Calls.{StartsCalled}

abbrev pub FirstCalled : (file lent result : List ℕ) (n : ℕ) (lent' result' : List ℕ) → Type 0
FirstCalled file lent result n lent' result' = StartsCalled FirstOf file lent result n lent' result'
