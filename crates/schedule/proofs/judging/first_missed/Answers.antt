use borrow.Author.Count.{below_more}
use Rattle.schedule.proofs.Judgements.{window_missed, window_met}
use Rattle.schedule.proofs.judging.first_missed.Goals as goal

pub returns-in-Err : goal.returns-in-Err
returns-in-Err c = window_missed _ _ _ _ c.loop-j-test.true c.loop-j.invariant c.in-Err.ensures

pub loop-j-preserved : goal.loop-j-preserved
loop-j-preserved c = below_more _ _ c.loop-j.invariant (window_met c.args.r c.args.starts.now c.loop-j.j c.in_default.ensures)
