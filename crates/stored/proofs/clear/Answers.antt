-- `stored::clear` meets its contract.
use mathlib.Core.Path.{ap, ◌∙◌}
use mathlib.Core.List.{List}
use Prim.Native.Nat.{ℕ}
use lib.ListN.{get_or}
use Rattle.stored.proofs.Clearing.{zeros}
use Rattle.stored.proofs.clear.Goals as goal

pub returns : goal.returns
returns c = λ i. ap (λ (l : List ℕ). get_or l i 0) (c.fill.ensures.after (λ y h. h)) ∙ zeros _ i
