use native.Mathlib.Omega.{arith}
use borrow.Author.Count.{below_more}
use Rattle.schedule.specs.inside.Judging.{holds, fails}
use Rattle.stepper.proofs.fitness.has_unlike.Goals as goal

pub returns-then-d : goal.returns-then-d
returns-then-d c =
    holds (record { which = c.loop-k.k; known = c.loop-k-test.true; unlike = λ b. omega (arith, b.1, c.if-d.true) })

pub loop-k-preserved : goal.loop-k-preserved
loop-k-preserved c = below_more _ _ c.loop-k.invariant c.if-d.false

pub returns : goal.returns
returns c =
    fails (λ u. u.unlike ((c.requires.sound u.which u.known).shuts_dearer, c.loop-k.invariant u.which (omega (arith, u.known, c.loop-k-test.false))))
