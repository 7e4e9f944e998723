-- `request::checks::powers_check` meets its contract.
use Rattle.base.proofs.Paths.{paths}
use Rattle.request.specs.Format.{powers_table}
use Rattle.request.proofs.checks.powers_check.Goals as goal
use Rattle.request.proofs.checks.powers_check.Goals.{then-d-via-then-d, then-d-via-else-d+then-d-2, then-d-via-else-d+else-d-2+then-no_lower, then-d-via-else-d+else-d-2+else-no_lower+then-no_lower-2, then-d-via-else-d+else-d-2+else-no_lower+else-no_lower-2+then-no_lower-3, then-d-via-else-d+else-d-2+else-no_lower+else-no_lower-2+else-no_lower-3+then-no_lower-4}

pub returns-then-d : goal.returns-then-d
unfolding powers_table
returns-then-d c =
    elim c.then-d.branch [
      | then-d-via-then-d w ↦ search paths depth 9
      | then-d-via-else-d+then-d-2 w ↦ search paths depth 9
      | then-d-via-else-d+else-d-2+then-no_lower w ↦ search paths depth 9
      | then-d-via-else-d+else-d-2+else-no_lower+then-no_lower-2 w ↦ search paths depth 9
      | then-d-via-else-d+else-d-2+else-no_lower+else-no_lower-2+then-no_lower-3 w ↦ search paths depth 9
      | then-d-via-else-d+else-d-2+else-no_lower+else-no_lower-2+else-no_lower-3+then-no_lower-4 w ↦ search paths depth 9
    ]

pub returns : goal.returns
unfolding powers_table
returns c = search paths depth 9
