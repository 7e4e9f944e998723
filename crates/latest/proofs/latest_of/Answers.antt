use native.Mathlib.Omega.{arith}
use lib.ListN.{get_or}
use Rattle.base.proofs.Turns.{each_start, each_step, each_done}
use Rattle.flat.specs.inside.Flat.{recorder_of}
use Rattle.latest.proofs.Tabled.{latest_empty, latest_some}
use Rattle.latest.proofs.latest_of.Goals as goal
use mathlib.Core.Path.{refl}

pub returns-then-m-eq0 : goal.returns-then-m-eq0
returns-then-m-eq0 c = rw c.horizon_of.ensures (latest_empty _ _ _ c.if-m-eq0.true)

pub loop-j-init : goal.loop-j-init
loop-j-init c = each_start _ _ _ refl

pub loop-j-preserved : goal.loop-j-preserved
loop-j-preserved c = each_step _ _ _ _ _ c.loop-j.invariant c.offered-best.ensures

pub returns : goal.returns
returns c =
    latest_some (recorder_of c.args.r.now) (λ i. get_or c.args.table.now i 0) c.args.m c.if-m-eq0.false _
    (each_done _ _ _ _ _ c.loop-j.invariant (omega (arith, c.job_count-j-end.ensures)))
