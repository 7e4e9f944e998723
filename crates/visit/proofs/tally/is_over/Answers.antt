-- `visit::tally::is_over` meets its contract.
use mathlib.Core.Path.{refl}
use native.Mathlib.Omega.{arith}
use Rattle.visit.specs.inside.Lent.{goes, alone, told}
use Rattle.visit.proofs.tally.is_over.Goals as goal

pub returns-in-Ok : goal.returns-in-Ok
returns-in-Ok c = rw c.in-Ok.is goes

pub returns-then-tally : goal.returns-then-tally
returns-then-tally c = rw c.in-Err.is (told (rw c.if-tally.true refl) _ refl)

pub returns-else-tally : goal.returns-else-tally
returns-else-tally c = rw c.in-Err.is (alone (rw c.if-tally.false (λ q. absurd (omega (arith, q)))))
