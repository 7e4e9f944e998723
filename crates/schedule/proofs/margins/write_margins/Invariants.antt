-- `schedule::margins::write_margins` meets its contract.
use Prim.Native.Nat.{◌≤◌}
use lib.ListN.{length}
use Rattle.base.specs.Lists.{up_to}
use Rattle.base.proofs.Filling.{Filled}
use Rattle.schedule.specs.Listing.{margin}
use Rattle.schedule.proofs.Judgements.{holding}
use Rattle.schedule.proofs.margins.write_margins.Given as goal

abbrev pub invariant-loop-j : goal.invariant-loop-j
invariant-loop-j l = (l.jobs.count ≤ length l.initial.out) × Filled l.initial.out l.j (up_to (margin (holding l.jobs) l.starts) l.j) l.out
