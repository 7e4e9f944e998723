-- `mend::moving::write_starts` meets its contract.
use native.Mathlib.Omega.{arith}
use Rattle.base.proofs.Arrays.{up_to_take}
use Rattle.mend.proofs.moving.write_starts.Goals as goal

pub returns : goal.returns
returns c = rw (c.copy_from_slice.ensures.after, up_to_take c.args.new 0 c.args.n (omega (arith, c.requires)))
