-- `request::checks::job_check` meets its contract.
use Rattle.base.proofs.Paths.{paths}
use Rattle.request.specs.Format.{job_table}
use Rattle.request.proofs.checks.job_check.Goals as goal
use Rattle.request.proofs.checks.job_check.Goals.{then-j-eq0-via-then-j-eq0, then-j-eq0-via-else-j-eq0+then-due-end, then-j-eq0-via-else-j-eq0+else-due-end+then-h-due}

pub returns-then-set_lacks : goal.returns-then-set_lacks
unfolding job_table
returns-then-set_lacks c = search paths depth 9

pub returns : goal.returns
unfolding job_table
returns c = search paths depth 9

pub returns-then-j-eq0 : goal.returns-then-j-eq0
unfolding job_table
returns-then-j-eq0 c =
    elim c.then-j-eq0.branch [
      | then-j-eq0-via-then-j-eq0 w ↦ search paths depth 9
      | then-j-eq0-via-else-j-eq0+then-due-end w ↦ search paths depth 9
      | then-j-eq0-via-else-j-eq0+else-due-end+then-h-due w ↦ search paths depth 9
    ]
