-- `request::sections::job_section` meets its contract.
use Rattle.base.proofs.Paths.{paths}
use Rattle.request.specs.Format.{job_section}
use Rattle.request.proofs.Limits.{limits}
use Rattle.request.proofs.sections.job_section.Goals as goal
use Rattle.request.proofs.sections.job_section.Goals.{then-h-eq0-via-then-h-eq0, then-h-eq0-via-else-h-eq0+then-h-gt4096}

pub returns-then-s-at : goal.returns-then-s-at
unfolding job_section
returns-then-s-at c = search paths

pub returns-then-is_mixed : goal.returns-then-is_mixed
unfolding job_section
returns-then-is_mixed c = search (paths, limits) depth 8

pub returns-then-h-eq0 : goal.returns-then-h-eq0
unfolding job_section
returns-then-h-eq0 c =
    elim c.then-h-eq0.branch [
      | then-h-eq0-via-then-h-eq0 w ↦ search (paths, limits) depth 8
      | then-h-eq0-via-else-h-eq0+then-h-gt4096 w ↦ search (paths, limits) depth 8
    ]

pub returns : goal.returns
unfolding job_section
returns c = search (paths, limits) depth 8
