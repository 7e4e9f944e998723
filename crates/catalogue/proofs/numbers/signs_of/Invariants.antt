-- `catalogue::numbers::signs_of` meets its contract.
use mathlib.Core.Path.{◌≡◌}
use Prim.Native.Nat.{◌+◌}
use lib.ListN.{length, drop}
use Rattle.catalogue.specs.Parts.{front}
use Rattle.catalogue.proofs.numbers.signs_of.Given as goal

-- The signs at the front are the turns so far, and those at the front of what is left.
abbrev pub invariant-loop-i : goal.invariant-loop-i
invariant-loop-i l = length (front l.number) ≡ l.i + length (front (drop l.i l.number))
