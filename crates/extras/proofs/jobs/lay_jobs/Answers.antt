use Rattle.extras.proofs.Listed.{jobs_next}
use Rattle.extras.proofs.jobs.lay_jobs.Goals as goal

pub loop-j-preserved : goal.loop-j-preserved
loop-j-preserved c = jobs_next c.loop-j.invariant c.lay_job.ensures c.loop-j-test.true c.requires.0.few_devices
