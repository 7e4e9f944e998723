-- `faults::sections::end_from` meets its contract.
use mathlib.Core.Path.{refl}
use Rattle.faults.specs.Places.{place_at}
use Rattle.faults.proofs.sections.end_from.Goals as goal

pub returns : goal.returns
unfolding place_at
returns c = refl
