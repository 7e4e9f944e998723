-- `request::recorders::no_devices` meets its contract.
use mathlib.Core.Path.{refl}
use Rattle.base.specs.Lists.{padded}
use Rattle.request.proofs.recorders.no_devices.Goals as goal

pub returns : goal.returns
unfolding padded
returns c = refl
