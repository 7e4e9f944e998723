-- `recall::memory::keep` meets its contract.
use Prim.Native.Nat.{◌+◌, ◌*◌, ◌≤◌, ◌<◌}
use native.Mathlib.Omega.{arith}
use lib.ListN.{length, length-set}
use borrow.Author.Tests.{le-leb, lt-leb}
use Rattle.recall.specs.inside.Entries.{wrote, kept}
use Rattle.recall.proofs.memory.keep.Goals as goal

pub bounds-memory-at-then-i-memory : goal.bounds-memory-at-then-i-memory
bounds-memory-at-then-i-memory c = simp length-set (omega arith)

pub bounds-memory-at-then-i-memory-2 : goal.bounds-memory-at-then-i-memory-2
bounds-memory-at-then-i-memory-2 c = simp length-set (omega arith)

pub bounds-memory-at-then-i-memory-3 : goal.bounds-memory-at-then-i-memory-3
bounds-memory-at-then-i-memory-3 c = simp length-set (omega arith)

pub bounds-memory-at-then-i-memory-4 : goal.bounds-memory-at-then-i-memory-4
bounds-memory-at-then-i-memory-4 c = simp length-set (omega arith)

pub bounds-memory-at-then-i-memory-5 : goal.bounds-memory-at-then-i-memory-5
bounds-memory-at-then-i-memory-5 c = simp length-set (omega arith)

pub returns-then-i-memory-clause-written : goal.returns-then-i-memory-clause-written
unfolding kept wrote
returns-then-i-memory-clause-written c =
    let room : 6 * c.args.i + 6 ≤ length c.args.memory.now = omega arith in
    rw (le-leb (6 * c.args.i + 6) (length c.args.memory.now) room)

pub returns-else-i-memory-clause-written : goal.returns-else-i-memory-clause-written
unfolding kept wrote
returns-else-i-memory-clause-written c =
    let full : length c.args.memory.now < 6 * c.args.i + 6 = omega arith in
    rw (lt-leb (6 * c.args.i + 6) (length c.args.memory.now) full)
