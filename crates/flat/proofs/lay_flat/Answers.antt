use mathlib.Core.Path.{◌≡◌}
use native.Mathlib.Omega.{arith}
use Rattle.base.proofs.Filling.{filled_start, filled_value, filled_whole}
use Rattle.flat.proofs.Cells.{recorder_kept}
use Rattle.flat.proofs.Shapes.{recorder_shaped}
use Rattle.flat.proofs.lay_flat.Goals as goal

pub loop-i-init : goal.loop-i-init
loop-i-init c = filled_start _ _

pub loop-i-preserved : goal.loop-i-preserved
loop-i-preserved c = filled_value _ c.loop-i.invariant (omega arith) _ c.number_of.ensures

pub returns : goal.returns
returns c =
    let R = c.args.r in
    let l = c.loop-i in
    let all : l.i ≡ 320 = omega arith in
    rw (filled_whole l.invariant (omega arith), all) (recorder_kept R (recorder_shaped R _ c.well_formed.0))
