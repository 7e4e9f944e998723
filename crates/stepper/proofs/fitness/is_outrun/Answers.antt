use native.Mathlib.Omega.{arith}
use borrow.Author.Count.{below_more}
use Rattle.schedule.specs.inside.Judging.{holds, fails}
use Rattle.stepper.proofs.fitness.is_outrun.Goals as goal

pub returns-then-job-d : goal.returns-then-job-d
returns-then-job-d c = holds (record { which = c.loop-k.k; known = c.loop-k-test.true; outrun = omega (arith, c.if-job-d.true) })

pub loop-k-preserved : goal.loop-k-preserved
loop-k-preserved c = below_more _ _ c.loop-k.invariant c.if-job-d.false

pub returns : goal.returns
returns c = fails (λ u. omega (arith, u.outrun, c.loop-k.invariant u.which (omega (arith, u.known, c.loop-k-test.false))))
