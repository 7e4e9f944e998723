use mathlib.Core.Path.{◌≡◌}
use native.Mathlib.Omega.{arith}
use Rattle.base.proofs.Additions.{sum_more}
use Rattle.flat.specs.inside.Flat.{recorder_of}
use Rattle.extras.specs.inside.Tabled.{rise_at, fall_at}
use Rattle.least.specs.inside.Shown.{fall_by}
use Rattle.least.proofs.leads.falls_of.Goals as goal

pub loop-k-preserved : goal.loop-k-preserved
unfolding fall_by
loop-k-preserved c =
    let l = c.loop-k in
    let a = c.args in
    let R = recorder_of a.r.now in
    let x = a.extras.now in
    let here : c.fall_with-sum.result ≡ fall_by R (rise_at x) (fall_at x) a.v.now a.j l.k = rw c.is_round-round.ensures at c.fall_with-sum.ensures.0 in
    (omega (arith, here, l.invariant.0, sum_more l.k (fall_by R (rise_at x) (fall_at x) a.v.now a.j)), omega arith)
