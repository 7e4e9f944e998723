-- `latest::slot_of` meets its contract.
use native.Mathlib.Omega.{arith}
use Rattle.latest.proofs.Tabled.{slot_none, slot_some}
use Rattle.latest.proofs.slot_of.Goals as goal

pub returns-then-a-s : goal.returns-then-a-s
returns-then-a-s c = let s = c.args in slot_some s.a s.d s.c s.x _ (omega arith) (omega arith)

pub returns-else-a-s : goal.returns-else-a-s
returns-else-a-s c = let s = c.args in slot_none s.a s.d s.c s.x c.saturating_sub-s.result (omega arith) (omega arith)
