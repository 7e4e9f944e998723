-- `stepper::fitness::has_brief` meets its contract.
use Prim.Native.Nat.{ℕ, ◌<◌}
use lib.ListN.{get_or}
use Rattle.schedule.specs.Quantities.{no_job}
use Rattle.stepper.specs.inside.Fitness.{Outrun}
use Rattle.stepper.proofs.fitness.has_brief.Given as goal

abbrev pub invariant-loop-j : goal.invariant-loop-j
invariant-loop-j l = (i : ℕ) → i < l.j → Outrun l.devices (get_or l.jobs.list i no_job).run → ⊥
