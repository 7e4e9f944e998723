-- `vertex::gaps::close_of` meets its contract.
use mathlib.Core.Path.{◌≡◌}
use Prim.Native.Nat.{◌≤◌, ◌*◌}
use Rattle.base.specs.Sums.{sum}
use Rattle.flat.specs.inside.Flat.{recorder_of}
use Rattle.vertex.specs.inside.Shown.{close_by}
use Rattle.vertex.proofs.gaps.close_of.Given as goal

abbrev pub invariant-loop-k : goal.invariant-loop-k
invariant-loop-k l = (l.m ≤ 8) × (l.sum ≡ sum l.k (close_by (recorder_of l.r) l.v)) × (l.sum ≤ 268431360 * l.k)
