-- `flat::release_of` meets its contract.
use native.Mathlib.Omega.{arith}
use Rattle.flat.proofs.Cells.{release_at}
use Rattle.flat.proofs.release_of.Goals as goal

pub returns : goal.returns
returns c = release_at c.args.r.now c.args.j (omega arith)
