-- `flat::is_used` meets its contract.
use native.Mathlib.Omega.{arith}
use Rattle.flat.proofs.Cells.{uses_at_lem}
use Rattle.flat.proofs.is_used.Goals as goal

pub returns : goal.returns
returns c = uses_at_lem c.args.r.now c.args.k c.args.j (omega arith) (omega arith)
