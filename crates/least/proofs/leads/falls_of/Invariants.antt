-- `least::leads::falls_of` meets its contract. A rise and a fall of eight devices just fit 32 bits.
use mathlib.Core.Path.{◌≡◌}
use Prim.Native.Nat.{◌≤◌, ◌*◌}
use Rattle.base.specs.Sums.{sum}
use Rattle.flat.specs.inside.Flat.{recorder_of}
use Rattle.extras.specs.inside.Tabled.{rise_at, fall_at}
use Rattle.least.specs.inside.Shown.{fall_by}
use Rattle.least.proofs.leads.falls_of.Given as goal

abbrev pub invariant-loop-k : goal.invariant-loop-k
invariant-loop-k l = (l.sum ≡ sum l.k (fall_by (recorder_of l.r) (rise_at l.extras) (fall_at l.extras) l.v l.j)) × (l.sum ≤ 536862720 * l.k)
