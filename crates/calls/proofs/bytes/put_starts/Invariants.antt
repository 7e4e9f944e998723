-- `calls::put_starts` meets its contract.
use Prim.Native.Nat.{◌*◌}
use lib.ListN.{take}
use Rattle.base.proofs.Filling.{Filled}
use Rattle.calls.specs.Bytes.{spread}
use Rattle.calls.proofs.bytes.put_starts.Given as goal

abbrev pub invariant-loop-j : goal.invariant-loop-j
invariant-loop-j l = Filled l.initial.bytes (l.j * 2) (spread (take l.j l.starts)) l.bytes
