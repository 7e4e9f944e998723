-- `stored::naming::four_idle` meets its contract.
use native.Mathlib.Omega.{arith}
use Rattle.stored.proofs.naming.four_idle.Goals as goal

pub idle_of-d-requires : goal.idle_of-d-requires
idle_of-d-requires c = (c.requires.0, (c.requires.1.0, omega (arith, c.requires.1.1)))
