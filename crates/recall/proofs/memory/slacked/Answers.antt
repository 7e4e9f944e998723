-- `recall::memory::slacked` meets its contract.
use mathlib.Core.Path.{refl}
use Rattle.recall.specs.inside.Entries.{slacked_by}
use Rattle.recall.proofs.memory.slacked.Goals as goal

pub returns : goal.returns
unfolding slacked_by
returns c = refl
