-- `vertex::cells::all_ticks_of` meets its contract.
use mathlib.Core.Path.{◌≡◌}
use Prim.Native.Nat.{◌≤◌, ◌*◌}
use Rattle.base.specs.Sums.{sum}
use Rattle.schedule.specs.Visiting.{ticks}
use Rattle.flat.specs.inside.Flat.{recorder_of}
use Rattle.vertex.proofs.cells.all_ticks_of.Given as goal

abbrev pub invariant-loop-j : goal.invariant-loop-j
invariant-loop-j l = (l.n ≤ 16) × (l.sum ≡ sum l.j (ticks (recorder_of l.r) l.k)) × (l.sum ≤ 65535 * l.j)
