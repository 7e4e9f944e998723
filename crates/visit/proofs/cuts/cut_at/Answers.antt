-- `visit::cuts::cut_at` meets its contract.
use mathlib.Core.Path.{refl}
use mathlib.Core.Logic.{inl, inr}
use native.Mathlib.Omega.{arith}
use Rattle.visit.proofs.cuts.cut_at.Goals as goal

pub overflow_add-least : goal.overflow_add-least
overflow_add-least c = omega (arith, c.least_of.ensures.1, c.requires.1.0)

pub returns-then-best-least : goal.returns-then-best-least
returns-then-best-least c = inr (refl, λ t a b. omega (arith, c.if-best-least.true, c.least_of.ensures.0 t a b))

pub returns-else-best-least : goal.returns-else-best-least
returns-else-best-least c = inl refl

pub returns-else-best-child : goal.returns-else-best-child
returns-else-best-child c = inl refl
