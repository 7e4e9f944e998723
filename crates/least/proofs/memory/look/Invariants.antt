-- `least::memory::look` meets its contract. The loop's invariant: the four entries are in the memory.
use Prim.Native.Nat.{◌+◌, ◌*◌, ◌≤◌}
use lib.ListN.{length}
use Rattle.least.proofs.memory.look.Given as goal

abbrev pub invariant-loop-i : goal.invariant-loop-i
invariant-loop-i l = 5 * l.from + 20 ≤ length l.memory
