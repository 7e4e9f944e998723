-- `catalogue::look_up::find` meets its contract.
use Rattle.catalogue.proofs.Pieces.{Passed}
use Rattle.catalogue.proofs.look_up.find.Given as goal

-- No part so far has the number.
abbrev pub invariant-loop-k : goal.invariant-loop-k
invariant-loop-k l = Passed l.catalogue l.number 0 l.k
