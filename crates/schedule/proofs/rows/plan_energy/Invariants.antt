-- `schedule::rows::plan_energy` meets its contract.
use Rattle.schedule.proofs.Summing.{Summed}
use Rattle.schedule.proofs.rows.plan_energy.Given as goal

abbrev pub invariant-loop-k : goal.invariant-loop-k
invariant-loop-k l = Summed l.r l.starts l.k l.sum
