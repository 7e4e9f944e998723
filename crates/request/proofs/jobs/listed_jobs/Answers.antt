use Rattle.base.specs.Lists.{up_to}
use Rattle.base.proofs.Arrays.{up_to_more}
use Rattle.request.proofs.Packed.{packed_push}
use Rattle.request.proofs.jobs.listed_jobs.Goals as goal

pub loop-j-init : goal.loop-j-init
unfolding up_to
loop-j-init c = c.no_jobs-js.ensures

pub loop-j-preserved : goal.loop-j-preserved
loop-j-preserved c = rw (c.push.ensures, c.listed_job.ensures, c.loop-j.invariant, packed_push, up_to_more)
