-- `vertex::dues::dues_in` meets its contract. The loop's invariant: the two smallest of the jobs so far.
use mathlib.Core.Path.{◌≡◌}
use Prim.Native.Nat.{◌≤◌, ◌/◌, ◌^◌}
use Rattle.flat.specs.inside.Flat.{recorder_of}
use Rattle.vertex.specs.inside.Lasts.{TwoLeast}
use Rattle.vertex.proofs.dues.dues_in.Given as goal

abbrev pub invariant-loop-i : goal.invariant-loop-i
invariant-loop-i l = (l.n ≤ 16) × (l.rest ≡ l.set / 2 ^ l.i) × TwoLeast (recorder_of l.r) l.set l.i l.dues
