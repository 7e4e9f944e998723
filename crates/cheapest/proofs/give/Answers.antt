-- `cheapest::give` meets its contract.
use Rattle.cheapest.proofs.give.Goals as goal

pub returns : goal.returns
returns c = (rw c.plan_energy.ensures, c.copy.ensures)
