-- `request::checks::task_check` meets its contract.
use Rattle.base.proofs.Paths.{paths}
use Rattle.request.specs.Format.{task_table}
use Rattle.request.proofs.checks.task_check.Goals as goal
use Rattle.request.proofs.checks.task_check.Goals.{then-k-eq0-via-then-k-eq0, then-k-eq0-via-else-k-eq0+then-k-gt4096, then-k-eq0-2-via-then-k-eq0-2, then-k-eq0-2-via-else-k-eq0-2+then-k}

pub returns-then-set_lacks : goal.returns-then-set_lacks
unfolding task_table
returns-then-set_lacks c = search paths depth 9

pub returns : goal.returns
unfolding task_table
returns c = search paths depth 9

pub returns-then-k-eq0 : goal.returns-then-k-eq0
unfolding task_table
returns-then-k-eq0 c =
    elim c.then-k-eq0.branch [
      | then-k-eq0-via-then-k-eq0 w ↦ search paths depth 9
      | then-k-eq0-via-else-k-eq0+then-k-gt4096 w ↦ search paths depth 9
    ]

pub returns-then-k-eq0-2 : goal.returns-then-k-eq0-2
unfolding task_table
returns-then-k-eq0-2 c =
    elim c.then-k-eq0-2.branch [
      | then-k-eq0-2-via-then-k-eq0-2 w ↦ search paths depth 9
      | then-k-eq0-2-via-else-k-eq0-2+then-k w ↦ search paths depth 9
    ]
