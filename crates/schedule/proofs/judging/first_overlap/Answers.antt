use native.Mathlib.Omega.{arith}
use borrow.Author.Count.{below_more}
use Rattle.schedule.specs.Listing.{overlap}
use Rattle.schedule.proofs.Judgements.{decided, denied, none_feasible}
use Rattle.schedule.proofs.judging.first_overlap.Goals as goal

pub returns-then-overlaps : goal.returns-then-overlaps
returns-then-overlaps c = overlap {j = c.loop-j.j} c.loop-j-test.true c.requires.2 (decided c.overlaps.ensures c.if-overlaps.true) c.loop-j.invariant

pub loop-j-preserved : goal.loop-j-preserved
loop-j-preserved c = below_more _ _ c.loop-j.invariant (denied c.overlaps.ensures c.if-overlaps.false)

pub returns : goal.returns
returns c = let p = c.requires in none_feasible _ _ p.1 p.2 (λ j h. c.loop-j.invariant j (omega arith))
