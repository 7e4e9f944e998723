-- `device::gap_trip` meets its contract. The loop's invariant: of the levels passed the best trip is kept.
use Rattle.device.specs.inside.Trips.{Chosen}
use Rattle.device.proofs.energy.gap_trip.Given as goal

abbrev pub invariant-loop-n : goal.invariant-loop-n
invariant-loop-n l = Chosen l.d l.n l.g l.best
