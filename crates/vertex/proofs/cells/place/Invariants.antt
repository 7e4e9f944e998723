-- `vertex::cells::place` meets its contract. The loop's invariant: the job is charged to the first k devices.
use Prim.Native.Nat.{◌≤◌}
use Rattle.flat.specs.inside.Flat.{recorder_of}
use Rattle.vertex.proofs.Charged.{Upto}
use Rattle.vertex.proofs.cells.place.Given as goal

abbrev pub invariant-loop-k : goal.invariant-loop-k
invariant-loop-k l = (l.m ≤ 8) × Upto (recorder_of l.r) l.initial.w l.j l.s l.k l.w
