use mathlib.Core.Logic.{inr}
use native.Mathlib.Omega.{arith}
use Rattle.least.proofs.Kept.{known_at_lem}
use Rattle.least.proofs.memory.look.Goals as goal

pub returns-then-is_at : goal.returns-then-is_at
returns-then-is_at c = record { known = inr (omega arith, c.is_at.ensures c.if-is_at.true, known_at_lem _ _) }
