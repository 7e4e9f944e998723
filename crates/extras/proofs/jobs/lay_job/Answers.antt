use mathlib.Core.Path.{◌≡◌, ◌∙◌}
use Prim.Native.Nat.{◌+◌}
use native.Mathlib.Omega.{arith}
use Rattle.schedule.specs.Quantities.{uses}
use Rattle.flat.specs.inside.Flat.{recorder_of}
use Rattle.flat.proofs.Cells.{flag_number}
use Rattle.extras.specs.inside.Jobs.{used_below}
use Rattle.extras.proofs.Uses.{used_none, used_next, used_most}
use Rattle.extras.proofs.Listed.{listed_none, listed_next, listed_all}
use Rattle.extras.proofs.jobs.lay_job.Goals as goal

pub loop-k-init : goal.loop-k-init
loop-k-init c = record { listed = listed_none; count = used_none (recorder_of c.args.r.now) c.args.j; few = omega arith }

pub loop-k-preserved : goal.loop-k-preserved
loop-k-preserved c =
    let R = recorder_of c.args.r.now in
    let k = c.loop-k.k in
    let i = c.loop-k.invariant in
    let next : c.loop-k.n + c.from-n.result ≡ used_below R c.args.j (k + 1) = rw (c.from-n.ensures, c.is_used.ensures, i.count, flag_number (uses R k c.args.j)) (used_next R c.args.j k) in
    record {
      listed = listed_next c.requires.1.0 c.requires.1.1 i.listed (omega (arith, c.device_count-k-end.ensures, c.requires.0.few_devices)) i.count;
      count = next;
      few = omega (arith, next, used_most R c.args.j (k + 1));
    }

pub returns : goal.returns
returns c =
    let i = c.loop-k.invariant in
    listed_all c.requires.1.0 c.requires.1.1 i.listed (omega (arith, c.device_count-k-end.ensures)) (omega (arith, c.device_count-k-end.ensures, c.requires.0.few_devices)) i.count
    (c.saturating_sub.ensures ∙ rw (c.from.ensures, c.deadline_of.ensures, c.from-2.ensures, c.run_of.ensures))
