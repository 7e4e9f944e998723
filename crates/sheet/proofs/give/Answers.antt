-- `sheet::give` meets its contract.
use native.Mathlib.Omega.{arith}
use mathlib.Core.Path.{refl}
use Rattle.sheet.specs.Promises as P
use Rattle.sheet.proofs.give.Goals as goal

pub returns-then-out-made : goal.returns-then-out-made
returns-then-out-made c = rw c.from.ensures (P.Filled.short refl (omega arith))

pub returns : goal.returns
returns c = rw c.copy.ensures (P.Filled.given refl (omega arith))
