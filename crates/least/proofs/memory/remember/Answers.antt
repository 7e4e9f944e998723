-- `least::memory::remember` meets its contract.
use Rattle.least.proofs.memory.remember.Goals as goal

pub returns : goal.returns
returns c = (c.effort_of.result, c.effort_of.ensures, rw (← c.known_of.ensures) c.keep.ensures)
