-- `vertex::cells::root_of` meets its contract. The loop's invariant: the ticks to come of the first k devices stand there.
use Prim.Native.Nat.{◌≤◌}
use Rattle.flat.specs.inside.Flat.{recorder_of}
use Rattle.vertex.proofs.Roots.{Rooted}
use Rattle.vertex.proofs.cells.root_of.Given as goal

abbrev pub invariant-loop-k : goal.invariant-loop-k
invariant-loop-k l = (l.m ≤ 8) × Rooted (recorder_of l.r) l.k l.v
