-- `least::memory::is_at` meets its contract.
use Rattle.least.proofs.Kept.{keyed}
use Rattle.least.proofs.memory.is_at.Goals as goal

pub returns : goal.returns
returns c = λ e. let h = c.is_key.ensures e in keyed _ _ _ h.head_is h.idle_is h.idle4_is h.first_is h.first4_is
