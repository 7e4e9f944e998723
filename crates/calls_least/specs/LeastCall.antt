-- What a C program gets from `floe_least`: as calls/specs/Calls has it of the search, with the promise of `least_plan` in the place of the search's (rule 120).
-- proofs/Only: it has one outcome for every input, but for 20, and for the memory where it is used.
use Rattle.std.specs.Prelude.{List, ℕ}
use Rattle.calls.specs.Calls.{StartsCalled, StartsCalledIn}
use Rattle.cheapest.specs.Promises.{LeastOf, CountedLeastOf, Sought}

abbrev pub LeastCalled : (file : List ℕ) (budget : ℕ) (lent result : List ℕ) (n : ℕ) (lent' result' : List ℕ) → Type 0
LeastCalled file budget lent result n lent' result' = StartsCalled (LeastOf budget) file lent result n lent' result'

-- And 20 is given only where the search has it too, and the lent memory is used only where a plan is looked for.
abbrev pub LeastInCalled : (file : List ℕ) (budget : ℕ) (memory lent result : List ℕ) (n : ℕ) (memory' lent' result' : List ℕ) → Type 0
LeastInCalled file budget memory lent result n memory' lent' result' = StartsCalledIn Sought (CountedLeastOf budget) file memory lent result n memory' lent' result'
