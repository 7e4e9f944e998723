-- `stepper::fitness::has_unlike` meets its contract.
use Prim.Native.Nat.{ℕ, ◌<◌}
use lib.ListN.{get_or}
use Rattle.device.specs.Row.{no_device}
use Rattle.stepper.proofs.fitness.has_unlike.Given as goal

abbrev pub invariant-loop-k : goal.invariant-loop-k
invariant-loop-k l = (i : ℕ) → i < l.k → (get_or l.devices.list i no_device).pd < (get_or l.devices.list i no_device).pw
