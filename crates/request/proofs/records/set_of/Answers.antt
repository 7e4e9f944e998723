use mathlib.Core.Path.{◌≡◌, refl}
use mathlib.Core.Bool.{false}
use native.Mathlib.Omega.{arith}
use Rattle.base.specs.Lists.{up_to, padded}
use Rattle.base.proofs.Arrays.{up_to_fill}
use Rattle.request.specs.Format.{bit}
use Rattle.request.proofs.records.set_of.Goals as goal

pub loop-k-init : goal.loop-k-init
unfolding up_to padded
loop-k-init c = refl

pub loop-k-preserved : goal.loop-k-preserved
loop-k-preserved c = rw c.loop-k.invariant (up_to_fill 8 false (bit c.args.set) c.loop-k.k (omega arith))

pub returns : goal.returns
unfolding up_to padded
returns c =
    let l = c.loop-k in
    let all : l.k ≡ 8 = omega arith in
    rw (l.invariant, all)
