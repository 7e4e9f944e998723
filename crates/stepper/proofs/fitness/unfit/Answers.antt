-- `stepper::fitness::unfit` meets its contract.
use mathlib.Core.Path.{sym, ◌∙◌}
use Rattle.schedule.proofs.Judgements.{decided, denied}
use Rattle.stepper.specs.inside.Fitness as F
use Rattle.stepper.proofs.Fitting.{mark_unfit, unlike_unfit, none_unfit}
use Rattle.stepper.proofs.fitness.unfit.Goals as goal
use Rattle.stepper.proofs.fitness.unfit.Goals.{then-is_marked-via-then-is_marked, then-is_marked-via-else-is_marked+then-has_unlike}

pub returns-then-is_marked : goal.returns-then-is_marked
returns-then-is_marked c =
    elim c.then-is_marked.branch [
      | then-is_marked-via-then-is_marked w ↦ F.Fitness.unfit (mark_unfit _ _ (sym c.is_marked.ensures ∙ w.if-is_marked.true))
      | then-is_marked-via-else-is_marked+then-has_unlike w ↦ F.Fitness.unfit (unlike_unfit _ _ (decided w.has_unlike.ensures w.if-has_unlike.true))
    ]

pub returns-then-has_brief : goal.returns-then-has_brief
returns-then-has_brief c =
    F.Fitness.brief (none_unfit _ _ (sym c.is_marked.ensures ∙ c.if-is_marked.false) (denied c.has_unlike.ensures c.if-has_unlike.false))
    (decided c.has_brief.ensures c.if-has_brief.true)

pub returns : goal.returns
returns c =
    F.Fitness.fit (none_unfit _ _ (sym c.is_marked.ensures ∙ c.if-is_marked.false) (denied c.has_unlike.ensures c.if-has_unlike.false))
    (denied c.has_brief.ensures c.if-has_brief.false)
