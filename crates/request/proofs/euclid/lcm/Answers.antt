-- `request::euclid::lcm` meets its contract.
use native.Mathlib.Omega.{arith}
use native.Mathlib.Nat.{mul-le-mul, div-le_self, le_trans}
use Rattle.request.proofs.Multiples.{gcd_pos}
use Rattle.request.proofs.euclid.lcm.Goals as goal

pub nonzero_div-result : goal.nonzero_div-result
nonzero_div-result c = rw c.gcd.ensures (gcd_pos _ _ c.requires.2)

pub overflow_mul-result : goal.overflow_mul-result
overflow_mul-result c =
    omega (arith, mul-le-mul (le_trans (div-le_self c.args.a c.gcd.result) c.requires.0) c.requires.1)

pub returns : goal.returns
returns c = rw c.gcd.ensures
