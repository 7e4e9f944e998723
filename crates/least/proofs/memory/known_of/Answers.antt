-- `least::memory::known_of` meets its contract.
use Rattle.base.proofs.Paths.{paths}
use Rattle.least.specs.inside.Entries.{known_of}
use Rattle.least.proofs.memory.known_of.Goals as goal

pub returns-then-best-limit : goal.returns-then-best-limit
unfolding known_of
returns-then-best-limit c = search paths

pub returns-else-best-limit : goal.returns-else-best-limit
unfolding known_of
returns-else-best-limit c = search paths
