-- `calls::put` meets its contract.
use mathlib.Core.Path.{◌≡◌}
use mathlib.Core.List.{◌++◌}
use lib.ListN.{length, drop}
use Rattle.calls.specs.Bytes.{big}
use Rattle.calls.proofs.bytes.put.Given as goal

abbrev pub invariant-loop-i : goal.invariant-loop-i
invariant-loop-i l = big (length l.initial.part) l.x ≡ big l.i l.left ++ drop l.i l.part
