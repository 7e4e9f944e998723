-- `recall::memory::look` meets its contract.
use native.Mathlib.Omega.{arith}
use Rattle.recall.proofs.Kept.{count_at_lem}
use Rattle.recall.proofs.memory.look.Goals as goal

pub returns-then-entries-eq0 : goal.returns-then-entries-eq0
returns-then-entries-eq0 c = record { known = _ }

pub returns-then-count-gt0 : goal.returns-then-count-gt0
returns-then-count-gt0 c = record { known = (c.if-count-gt0.true, omega arith, c.is_at.ensures c.if-is_at.true, count_at_lem _ _) }
