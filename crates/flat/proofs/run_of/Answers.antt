-- `flat::run_of` meets its contract.
use native.Mathlib.Omega.{arith}
use Rattle.flat.proofs.Cells.{run_at}
use Rattle.flat.proofs.run_of.Goals as goal

pub returns : goal.returns
returns c = run_at c.args.r.now c.args.j (omega arith)
