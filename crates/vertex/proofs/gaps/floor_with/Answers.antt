-- `vertex::gaps::floor_with` meets its contract.
use Prim.Native.Nat.{◌+◌, ◌-◌, ◌*◌, ◌≤◌}
use native.Mathlib.Omega.{arith}
use Rattle.vertex.proofs.Most.{product_fits, both_fit}
use Rattle.vertex.proofs.gaps.floor_with.Goals as goal

pub overflow_mul-result : goal.overflow_mul-result
overflow_mul-result c = let a = c.args in record { fits = omega (arith, product_fits c.from.result a.ahead (omega arith) (omega arith)) }

pub overflow_mul-result-2 : goal.overflow_mul-result-2
overflow_mul-result-2 c =
    let a = c.args in
    record { fits = omega (arith, product_fits c.from-2.result (a.h - a.ahead) (omega arith) (omega arith)) }

pub overflow_add-result : goal.overflow_add-result
overflow_add-result c =
    let most : let a = c.args in
    c.from.result * a.ahead + c.from-2.result * (a.h - a.ahead) ≤ 268431360 = let a = c.args in
    both_fit c.from.result c.from-2.result a.ahead (a.h - a.ahead) (omega arith) (omega arith) (omega arith) in
    record { fits = omega (arith, most) }

pub returns : goal.returns
returns c =
    let most : let a = c.args in
    c.from.result * a.ahead + c.from-2.result * (a.h - a.ahead) ≤ 268431360 = let a = c.args in
    both_fit c.from.result c.from-2.result a.ahead (a.h - a.ahead) (omega arith) (omega arith) (omega arith) in
    (rw (c.from.ensures, c.from-2.ensures), most)
