-- `request::jobs::push` meets its contract.
use Rattle.base.proofs.Paths.{paths}
use Rattle.request.specs.inside.Held.{pushed}
use Rattle.request.proofs.jobs.push.Goals as goal

pub returns-then-js-lt16 : goal.returns-then-js-lt16
unfolding pushed
returns-then-js-lt16 c = rw c.place.ensures (search paths)

pub returns-else-js-lt16 : goal.returns-else-js-lt16
unfolding pushed
returns-else-js-lt16 c = search paths
