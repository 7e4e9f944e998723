use Prim.Native.Nat.{ℕ, ◌<◌}
use native.Mathlib.Omega.{arith}
use borrow.Author.Count.{below_more}
use Rattle.schedule.specs.declared.Recorder.{Recorder}
use Rattle.schedule.specs.Quantities.{jobs, run}
use Rattle.schedule.specs.inside.Judging.{holds, fails}
use Rattle.schedule.proofs.Judgements.{decided, denied}
use Rattle.stepper.specs.Promises.{Brief, shorter}
use Rattle.stepper.specs.inside.Fitness.{Outrun}
use Rattle.stepper.proofs.fitness.has_brief.Goals as goal

outrun-brief : (R : Recorder) (j : ℕ) → j < jobs R → Outrun R.devices (run R j) → Brief R
outrun-brief R j h o = shorter h o.known o.outrun

none-brief : (R : Recorder) → ((j : ℕ) → j < jobs R → Outrun R.devices (run R j) → ⊥) → Brief R → ⊥
none-brief R h (shorter {j = j} {k = k} l m b) = h j l (record { which = k; known = m; outrun = b })

pub is_outrun-requires : goal.is_outrun-requires
is_outrun-requires c = c.requires.few_devices

pub returns-then-is_outrun : goal.returns-then-is_outrun
returns-then-is_outrun c =
    holds (outrun-brief c.args.r c.loop-j.j c.loop-j-test.true (decided c.is_outrun.ensures c.if-is_outrun.true))

pub loop-j-preserved : goal.loop-j-preserved
loop-j-preserved c =
    below_more _ _ c.loop-j.invariant (denied c.is_outrun.ensures c.if-is_outrun.false)

pub returns : goal.returns
returns c =
    fails (none-brief c.args.r (λ j h. c.loop-j.invariant j (omega (arith, h, c.loop-j-test.false))))
