use native.Mathlib.Omega.{arith}
use Rattle.schedule.specs.Quantities.{jobs}
use Rattle.flat.specs.inside.Flat.{recorder_of}
use Rattle.latest.proofs.Tabled.{power_few, upto_next, upto_all}
use Rattle.latest.proofs.lay_latest.Goals as goal

pub loop-m-preserved : goal.loop-m-preserved
loop-m-preserved c = upto_next c.loop-m.invariant (omega (arith, power_few (jobs (recorder_of c.args.r.now)) c.requires.0.few_jobs)) _ c.latest_of-x.ensures

pub returns-2 : goal.returns-2
returns-2 c = upto_all (upto_next c.loop-m.invariant (omega (arith, power_few (jobs (recorder_of c.args.r.now)) c.requires.0.few_jobs)) _ c.latest_of-x.ensures) (omega (arith, c.all_jobs-all.ensures))
