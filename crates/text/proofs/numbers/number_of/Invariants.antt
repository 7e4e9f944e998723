-- `text::numbers::number_of` meets its contract.
use mathlib.Core.Path.{◌≡◌}
use Prim.Native.Nat.{◌<◌}
use lib.ListN.{drop}
use Rattle.text.specs.inside.Cursors.{number_from, number_of}
use Rattle.text.proofs.numbers.number_of.Given as goal

-- The number is that of the value so far and the digits that are left.
abbrev pub invariant-loop-b : goal.invariant-loop-b
invariant-loop-b l = (l.value < 65536) × (number_of l.field ≡ number_from l.value (drop l.b-index l.field))
