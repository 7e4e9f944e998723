-- `cheapest::is_possible` meets its contract.
use native.Mathlib.Omega.{arith}
use lib.Pow.{pow_pos}
use Rattle.latest.proofs.Tabled.{power_few}
use Rattle.cheapest.proofs.is_possible.Goals as goal

pub overflow_sub-last : goal.overflow_sub-last
overflow_sub-last c = omega (arith, c.power.ensures, pow_pos c.args.n)

pub offset_bounds-latest-power : goal.offset_bounds-latest-power
offset_bounds-latest-power c = omega (arith, c.power.ensures, power_few c.args.n c.requires)

pub bounds-latest-power : goal.bounds-latest-power
bounds-latest-power c = omega (arith, c.power.ensures, power_few c.args.n c.requires)

pub returns : goal.returns
returns c = rw c.power.ensures
