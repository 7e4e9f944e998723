-- `faults::sections::count_at` meets its contract.
use mathlib.Core.Path.{refl}
use Rattle.faults.specs.Places.{place_at}
use Rattle.faults.proofs.sections.count_at.Goals as goal

pub returns : goal.returns
unfolding place_at
returns c = refl
