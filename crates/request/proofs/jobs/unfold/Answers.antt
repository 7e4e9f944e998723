use native.Mathlib.Omega.{arith}
use Rattle.request.specs.Format.{unfolded}
use Rattle.request.proofs.jobs.unfold.Goals as goal

pub loop-t-init : goal.loop-t-init
unfolding unfolded
loop-t-init c = c.no_jobs-js.ensures

pub tick-requires : goal.tick-requires
tick-requires c = (c.requires.0, omega arith, c.loop-t.invariant)
