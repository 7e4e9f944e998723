-- `visit::walk::slack_of` meets its contract.
use Rattle.base.proofs.Paths.{paths}
use Rattle.visit.specs.inside.Lent.{slack_by}
use Rattle.visit.proofs.walk.slack_of.Goals as goal

pub returns-then-best-eq-NONE : goal.returns-then-best-eq-NONE
unfolding slack_by
returns-then-best-eq-NONE c = search paths

pub returns-else-best-eq-NONE : goal.returns-else-best-eq-NONE
unfolding slack_by
returns-else-best-eq-NONE c = search paths
