use mathlib.Core.Path.{◌≡◌, refl, ◌∙◌}
use native.Mathlib.Omega.{arith}
use Rattle.base.proofs.Additions.{sum_more}
use Rattle.schedule.specs.Quantities.{run}
use Rattle.flat.specs.inside.Flat.{recorder_of}
use Rattle.vertex.proofs.cells.load_of.Goals as goal

pub loop-j-init : goal.loop-j-init
loop-j-init c = (omega (arith, c.job_count-n.ensures, c.requires), refl, omega arith)

pub overflow_add-load : goal.overflow_add-load
overflow_add-load c = omega (arith, c.from-load.ensures)

pub loop-j-preserved : goal.loop-j-preserved
loop-j-preserved c =
    let R = recorder_of c.args.r.now in
    let l = c.loop-j in
    (l.invariant.0, omega (arith, (c.from-load.ensures ∙ c.run_of.ensures), l.invariant.1, sum_more l.j (run R)), omega (arith, c.from-load.ensures))

pub returns : goal.returns
returns c = let all : c.loop-j.j ≡ c.job_count-n.result = omega arith in rw (← c.job_count-n.ensures, ← all) c.loop-j.invariant.1
