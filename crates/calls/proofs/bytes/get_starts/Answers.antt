use Rattle.base.proofs.Filling.{filled_start, filled_value, filled_whole}
use Rattle.std.proofs.Common.{◌≡◌, ap, ◌∙◌, length, arith}
use Rattle.calls.specs.Bytes.{starts_in}
use Rattle.calls.proofs.bytes.get_starts.Goals as goal

pub loop-j-init : goal.loop-j-init
loop-j-init c = filled_start _ _

pub loop-j-preserved : goal.loop-j-preserved
loop-j-preserved c = filled_value _ c.loop-j.invariant (omega arith) _ c.pair_at.ensures

pub returns : goal.returns
returns c =
    let l = c.loop-j in
    let all : l.j ≡ length c.args.starts.now = omega arith in
    filled_whole l.invariant (omega arith) ∙ ap (starts_in c.args.bytes.now) all
