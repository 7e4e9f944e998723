-- `least::hits` meets its contract.
use mathlib.Core.Path.{refl}
use native.Mathlib.Omega.{arith}
use Rattle.least.proofs.Hitting.{hit_far, hit_with}
use Rattle.least.proofs.reading.hits.Goals as goal

pub returns-then-goal-lead-clause-answer : goal.returns-then-goal-lead-clause-answer
returns-then-goal-lead-clause-answer c = λ m u h q e. (omega arith, hit_far _ _ _ _ e c.if-goal-lead.true)

pub overflow_add-result : goal.overflow_add-result
overflow_add-result c =
    let o = c.requires.1.1.0 in
    omega (arith, c.requires.1.1.1, c.if-goal-lead.false, (c.in_ok-x.ensures.answer o.left o.vertex o.shows (omega (arith, o.early))).1.0)

pub returns-clause-answer : goal.returns-clause-answer
returns-clause-answer c =
    λ m u h q e.
    let w = c.in_ok-x.ensures.answer m u h q in
    (w.0, hit_with _ _ _ _ e _ (omega (arith, c.if-goal-lead.false)) w.1.1 _ refl)
