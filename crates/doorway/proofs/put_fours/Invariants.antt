-- `doorway::put_fours` meets its contract.
use Prim.Native.Nat.{◌*◌}
use lib.ListN.{get_or}
use Rattle.base.proofs.Filling.{Filled}
use Rattle.tables.specs.Layout.{joined}
use Rattle.calls.specs.Bytes.{big}
use Rattle.doorway.proofs.put_fours.Given as goal

abbrev pub invariant-loop-j : goal.invariant-loop-j
invariant-loop-j l = Filled l.initial.bytes (l.j * 4) (joined (λ i. big 4 (get_or l.values i 0)) l.j) l.bytes
