-- `visit::cuts::first_cut` meets its contract.
use mathlib.Core.Path.{◌∙◌}
use native.Mathlib.Omega.{arith}
use Rattle.visit.proofs.cuts.first_cut.Goals as goal

pub run_of-requires : goal.run_of-requires
run_of-requires c = c.requires.1.0

pub overflow_sub-place : goal.overflow_sub-place
overflow_sub-place c =
    omega (arith, c.from-c.ensures ∙ c.run_of.ensures, c.requires.1.1.0)

pub limit_of-limit-requires : goal.limit_of-limit-requires
limit_of-limit-requires c =
    omega (arith, c.from-h.ensures ∙ c.horizon_of.ensures, c.requires.1.1.1)

pub deadline_of-requires : goal.deadline_of-requires
deadline_of-requires c = c.requires.1.0

pub overflow_add-last : goal.overflow_add-last
overflow_add-last c = omega (arith, c.min-last.ensures, c.from.ensures)

pub returns : goal.returns
returns c =
    rw (← c.run_of.ensures, ← c.from-c.ensures, ← c.horizon_of.ensures, ← c.from-h.ensures, ← c.limit_of-limit.ensures, ← c.deadline_of.ensures, ← c.from.ensures, ← c.min-last.ensures)
    c.saturating_sub.ensures
