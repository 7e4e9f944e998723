-- `plan::print_answer` meets its contract.
use mathlib.Core.Path.{sym}
use Rattle.request.proofs.Accepted.{accepted_valid}
use Rattle.plan.proofs.print_answer.Goals as goal

pub print_plan-requires : goal.print_plan-requires
print_plan-requires c = accepted_valid _ _ (sym c.in-Ok.ensures)
