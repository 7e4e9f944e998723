use native.Mathlib.Omega.{arith}
use Rattle.flat.specs.inside.Flat.{recorder_of}
use Rattle.latest.proofs.Ordering.{offer_opens, none_more, none_never}
use Rattle.latest.proofs.leading.first_job.Goals as goal

pub returns-then-t-offered : goal.returns-then-t-offered
returns-then-t-offered c =
    record { opens = offer_opens (recorder_of c.args.r.now) c.args.table.now c.requires.1.0 c.args.t c.args.m c.requires.1.1.1.0 c.loop-j.j c.offered.result (omega (arith, c.job_count-j-end.ensures)) c.offered.ensures c.if-t-offered.true; least = c.loop-j.invariant }

pub loop-j-preserved : goal.loop-j-preserved
loop-j-preserved c =
    none_more (recorder_of c.args.r.now) c.args.table.now c.requires.1.0 c.args.t c.args.m c.requires.1.1.1.0 c.loop-j.j c.offered.result c.offered.ensures c.if-t-offered.false c.loop-j.invariant

pub unreachable-requires : goal.unreachable-requires
unreachable-requires c =
    none_never (recorder_of c.args.r.now) c.args.table.now c.requires.1.0 c.args.t c.args.m c.requires.1.1.1.0 c.loop-j.j (omega (arith, c.job_count-j-end.ensures)) c.requires.1.1.0 c.requires.1.1.1.1 c.loop-j.invariant
