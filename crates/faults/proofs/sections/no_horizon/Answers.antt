-- `faults::sections::no_horizon` meets its contract.
use mathlib.Core.Path.{◌≡◌}
use Prim.Native.Nat.{◌+◌}
use native.Mathlib.Omega.{arith}
use Rattle.faults.specs.Places.{place_at}
use Rattle.faults.proofs.sections.no_horizon.Goals as goal

pub returns : goal.returns
unfolding place_at
returns c = let none : c.args.mark + 0 ≡ c.args.mark = omega arith in rw none
