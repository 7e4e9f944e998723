-- `vertex::cells::load_of` meets its contract.
use mathlib.Core.Path.{◌≡◌}
use Prim.Native.Nat.{◌≤◌, ◌*◌}
use Rattle.base.specs.Sums.{sum}
use Rattle.schedule.specs.Quantities.{run}
use Rattle.flat.specs.inside.Flat.{recorder_of}
use Rattle.vertex.proofs.cells.load_of.Given as goal

abbrev pub invariant-loop-j : goal.invariant-loop-j
invariant-loop-j l = (l.n ≤ 16) × (l.load ≡ sum l.j (run (recorder_of l.r))) × (l.load ≤ 65535 * l.j)
