-- `schedule::rows::write_rows` meets its contract.
use Prim.Native.Nat.{◌*◌}
use Rattle.base.proofs.Filling.{Filled}
use Rattle.schedule.specs.Listing.{laid}
use Rattle.schedule.specs.Visiting.{plan_row}
use Rattle.schedule.proofs.Summing.{Summed}
use Rattle.schedule.proofs.rows.write_rows.Given as goal

abbrev pub invariant-loop-k : goal.invariant-loop-k
invariant-loop-k l = Summed l.r l.starts l.k l.sum × Filled l.initial.out (l.k * l.r.horizon) (laid l.r.sleeps (plan_row l.r l.starts) l.k) l.out
