-- `request::jobs::no_jobs` meets its contract.
use mathlib.Core.Path.{refl}
use Rattle.base.specs.Lists.{padded}
use Rattle.request.specs.inside.Held.{packed}
use Rattle.request.proofs.jobs.no_jobs.Goals as goal

pub returns : goal.returns
unfolding packed padded
returns c = refl
