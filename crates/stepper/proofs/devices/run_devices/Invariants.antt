-- `stepper::devices::run_devices` meets its contract. No device spends more than 65,535 × 4,096.
use mathlib.Core.Path.{◌≡◌}
use Prim.Native.Nat.{◌*◌, ◌≤◌}
use Rattle.base.specs.Lists.{up_to}
use Rattle.base.specs.Sums.{sum}
use Rattle.base.proofs.Filling.{Filled}
use Rattle.steps.specs.Stepping.{spent}
use Rattle.stepper.proofs.devices.run_devices.Given as goal

abbrev pub invariant-loop-k : goal.invariant-loop-k
invariant-loop-k l = (l.total ≡ sum l.k (λ i. spent l.r i l.starts)) × (l.total ≤ 268431360 * l.k) × Filled l.initial.out l.k (up_to (λ i. spent l.r i l.starts) l.k) l.out
