use mathlib.Core.Path.{sym, ◌∙◌}
use native.Mathlib.Omega.{arith}
use Prim.Native.Nat.{◌<◌}
use Rattle.schedule.specs.Quantities.{jobs}
use borrow.Author.Count.{below_more}
use Rattle.schedule.specs.inside.Judging.{holds, fails}
use Rattle.schedule.proofs.Judgements.{apart_none, clash_overlaps, clash_apart}
use Rattle.schedule.proofs.judging.overlaps.Goals as goal

pub returns-then-clash : goal.returns-then-clash
returns-then-clash c =
    let p = c.requires in let l = c.loop-i in let i : l.i < jobs c.args.r = omega arith in
    holds (clash_overlaps c.args.r c.args.starts.now l.i c.args.job.0 i (p.0.runs _ i) (p.0.runs _ p.2)
    (sym c.clash.ensures ∙ c.if-clash.true))

pub loop-i-preserved : goal.loop-i-preserved
loop-i-preserved c = below_more _ _ c.loop-i.invariant (clash_apart c.args.r c.args.starts.now c.loop-i.i c.args.job.0 (sym c.clash.ensures ∙ c.if-clash.false))

pub returns : goal.returns
returns c = fails (apart_none _ _ _ (λ i h. c.loop-i.invariant i (omega arith)))
