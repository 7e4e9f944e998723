-- `stored::row_of` meets its contract.
use native.Mathlib.Nat.{mod-lt}
use Rattle.stored.proofs.row_of.Goals as goal

pub returns : goal.returns
returns c = mod-lt _ c.requires
