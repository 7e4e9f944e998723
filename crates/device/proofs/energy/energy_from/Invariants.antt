-- `device::energy_from` meets its contract. The loop's invariant: the sum is the least energy of the ticks from `front` to the end of the last use passed.
use mathlib.Core.Path.{◌≡◌}
use mathlib.Core.Bool.{false}
use Prim.Native.Nat.{◌-◌}
use Rattle.device.specs.Row.{energy_of, pattern}
use Rattle.device.specs.inside.Uses.{used_in, after_from}
use Rattle.device.proofs.energy.energy_from.Given as goal

abbrev pub invariant-loop-i : goal.invariant-loop-i
invariant-loop-i l = (l.at ≡ after_from l.front l.u l.i) × (l.sum ≡ energy_of false l.d (pattern (used_in l.u) l.front (l.at - l.front)))
