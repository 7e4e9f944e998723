-- `visit::stages::whole_visit` meets its contract.
use mathlib.Core.Path.{refl}
use Rattle.visit.specs.inside.Lent.{whole, spent}
use Rattle.visit.proofs.Rooted.{came_whole, came_spent}
use Rattle.visit.proofs.stages.whole_visit.Goals as goal

pub root_visit-ended-requires : goal.root_visit-ended-requires
root_visit-ended-requires c = rw c.begin.ensures (c.requires, (refl, (refl, (refl, (c.args.stop, refl)))))

pub returns-then-is_over : goal.returns-then-is_over
returns-then-is_over c = spent (came_spent _ _ _ _ _ _ (c.root_visit-ended.ensures.1 c.args.stop (rw c.begin.ensures refl)) c.is_over.ensures c.if-is_over.true)

pub returns-else-is_over : goal.returns-else-is_over
returns-else-is_over c = whole (came_whole _ _ _ _ _ _ (c.root_visit-ended.ensures.1 c.args.stop (rw c.begin.ensures refl)) c.is_over.ensures c.if-is_over.false)
