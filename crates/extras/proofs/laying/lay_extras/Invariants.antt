-- `extras::laying::lay_extras` meets its contract. The loop's invariant: the devices passed are laid.
use Rattle.flat.specs.inside.Flat.{recorder_of}
use Rattle.extras.proofs.Laid.{Devices}
use Rattle.extras.proofs.laying.lay_extras.Given as goal

abbrev pub invariant-loop-k : goal.invariant-loop-k
invariant-loop-k l = Devices (recorder_of l.r) l.k l.extras
