-- `request::checks::set_lacks` meets its contract.
use mathlib.Core.Path.{sym, ◌∙◌}
use Prim.Native.Nat.{◌≤◌, ◌<◌, ◌^◌}
use native.Mathlib.Omega.{arith}
use native.Mathlib.Nat.{mod-eq_of_lt, one-mul}
use lib.Pow.{pow_mono, pow-lt}
use borrow.Author.Tests.{lt-leb, le-ltb}
use Rattle.request.specs.Format.{lacks}
use Rattle.request.proofs.checks.set_lacks.Goals as goal

pub returns-then-n-lt8 : goal.returns-then-n-lt8
unfolding lacks
returns-then-n-lt8 c =
    let small : 2 ^ c.args.n < 2 ^ 32 = pow-lt {j = 32} (omega arith) in
    rw (one-mul, mod-eq_of_lt small)

pub returns-else-n-lt8 : goal.returns-else-n-lt8
unfolding lacks
returns-else-n-lt8 c =
    let big : 2 ^ 8 ≤ 2 ^ c.args.n = pow_mono c.if-n-lt8.false in
    let small : c.args.set < 2 ^ c.args.n = omega arith in
    le-ltb _ _ c.if-n-lt8.false ∙ sym (lt-leb _ _ small)
