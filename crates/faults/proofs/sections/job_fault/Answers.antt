-- `faults::sections::job_fault` meets its contract.
use Rattle.base.proofs.Paths.{paths}
use Rattle.request.proofs.Limits.{limits}
use Rattle.faults.specs.inside.Walk.{job_walk}
use Rattle.faults.proofs.Walking.{walks}
use Rattle.faults.proofs.sections.job_fault.Goals as goal

pub returns-then-s-at : goal.returns-then-s-at
unfolding job_walk
returns-then-s-at c = search paths

pub returns-then-is_mixed : goal.returns-then-is_mixed
unfolding job_walk
returns-then-is_mixed c = search (paths, limits) depth 8

pub returns-then-h-eq0 : goal.returns-then-h-eq0
unfolding job_walk
returns-then-h-eq0 c = search (paths, limits) depth 8

pub returns-then-h-gt4096 : goal.returns-then-h-gt4096
unfolding job_walk
returns-then-h-gt4096 c = search (paths, limits) depth 8

pub returns : goal.returns
unfolding job_walk
returns c = search (paths, limits, walks) depth 8
