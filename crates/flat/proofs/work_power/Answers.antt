-- `flat::work_power` meets its contract.
use native.Mathlib.Omega.{arith}
use Rattle.flat.proofs.Cells.{work_at}
use Rattle.flat.proofs.work_power.Goals as goal

pub returns : goal.returns
returns c = work_at c.args.r.now c.args.k (omega arith)
