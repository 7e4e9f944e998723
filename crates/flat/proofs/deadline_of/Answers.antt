-- `flat::deadline_of` meets its contract.
use native.Mathlib.Omega.{arith}
use Rattle.flat.proofs.Cells.{deadline_at}
use Rattle.flat.proofs.deadline_of.Goals as goal

pub returns : goal.returns
returns c = deadline_at c.args.r.now c.args.j (omega arith)
