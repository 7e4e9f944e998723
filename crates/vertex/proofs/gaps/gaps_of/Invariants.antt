-- `vertex::gaps::gaps_of` meets its contract. The loop's invariant: the sum over the devices of the job so far.
use mathlib.Core.Path.{◌≡◌}
use Prim.Native.Nat.{◌≤◌, ◌*◌}
use Rattle.flat.specs.inside.Flat.{recorder_of}
use Rattle.extras.specs.inside.Jobs.{used_below}
use Rattle.extras.proofs.Uses.{SumTo}
use Rattle.vertex.specs.inside.Gaps.{gap_by}
use Rattle.vertex.proofs.gaps.gaps_of.Given as goal

abbrev pub invariant-loop-i : goal.invariant-loop-i
invariant-loop-i l = (l.n ≡ used_below (recorder_of l.r) l.j (recorder_of l.r).devices.count) × (l.n ≤ 8)
    × SumTo (recorder_of l.r) l.j (gap_by (recorder_of l.r) l.extras l.v l.later l.j l.s) l.i l.sum × (l.sum ≤ 268431360 * l.i)
