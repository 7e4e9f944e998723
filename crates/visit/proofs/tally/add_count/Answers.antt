-- `visit::tally::add_count` meets its contract.
use mathlib.Core.Path.{refl}
use native.Mathlib.Omega.{arith}
use Rattle.visit.specs.inside.Lent.{fits, beyond}
use Rattle.visit.proofs.tally.add_count.Goals as goal

pub returns-then-budget-tally : goal.returns-then-budget-tally
returns-then-budget-tally c = beyond (omega arith) refl

pub returns : goal.returns
returns c = fits (omega arith) refl
