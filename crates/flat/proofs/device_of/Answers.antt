-- `flat::device_of` meets its contract.
use mathlib.Core.Path.{refl}
use Prim.Native.Nat.{◌+◌, ◌*◌}
use native.Mathlib.Omega.{arith}
use Rattle.flat.proofs.Cells.{figures_at}
use Rattle.flat.proofs.device_of.Goals as goal

pub returns : goal.returns
returns c =
    figures_at c.args.r.now c.args.k (176 + 16 * c.args.k) (omega arith) refl
