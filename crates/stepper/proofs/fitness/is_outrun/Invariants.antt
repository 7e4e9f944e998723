-- `stepper::fitness::is_outrun` meets its contract.
use Prim.Native.Nat.{ℕ, ◌≤◌, ◌<◌}
use lib.ListN.{get_or}
use Rattle.device.specs.Row.{no_device}
use Rattle.steps.specs.Stepping.{move_time}
use Rattle.stepper.proofs.fitness.is_outrun.Given as goal

abbrev pub invariant-loop-k : goal.invariant-loop-k
invariant-loop-k l = (i : ℕ) → i < l.k → move_time (get_or l.devices.list i no_device) ≤ l.job.run
