use mathlib.Core.Path.{◌≡◌, refl}
use native.Mathlib.Omega.{arith}
use Rattle.base.proofs.Additions.{sum_more}
use Rattle.schedule.specs.Visiting.{ticks}
use Rattle.flat.specs.inside.Flat.{recorder_of}
use Rattle.vertex.proofs.cells.all_ticks_of.Goals as goal

pub loop-j-init : goal.loop-j-init
loop-j-init c = (omega (arith, c.job_count-n.ensures, c.requires.0), refl, omega arith)

pub is_used-requires : goal.is_used-requires
is_used-requires c = (c.requires.1, omega arith)

pub overflow_add-sum : goal.overflow_add-sum
overflow_add-sum c = omega (arith, c.ticks_of-sum.ensures.1)

pub loop-j-preserved : goal.loop-j-preserved
loop-j-preserved c =
    let R = recorder_of c.args.r.now in
    let k = c.args.k in
    let l = c.loop-j in
    let here : c.ticks_of-sum.result ≡ ticks R k l.j = rw (← c.is_used.ensures, ← c.run_of.ensures) c.ticks_of-sum.ensures.0 in
    (l.invariant.0, omega (arith, here, l.invariant.1, sum_more l.j (ticks R k)), omega (arith, c.ticks_of-sum.ensures.1))

pub returns : goal.returns
returns c = let all : c.loop-j.j ≡ c.job_count-n.result = omega arith in rw (← c.job_count-n.ensures, ← all) c.loop-j.invariant.1
