use mathlib.Core.Path.{refl}
use native.Mathlib.Omega.{arith}
use Rattle.possible.proofs.Idling.{idled_none, idled_more}
use Rattle.possible.proofs.without_devices.Goals as goal

pub loop-j-init : goal.loop-j-init
loop-j-init c = (refl, idled_none _)

pub loop-j-preserved : goal.loop-j-preserved
loop-j-preserved c =
    let l = c.loop-j in
    (l.invariant.0, rw c.idle_job.ensures (idled_more _ l.j _ l.invariant.1))

pub returns : goal.returns
returns c =
    let l = c.loop-j in
    let valid = c.requires in
    record {
      horizon = refl;
      count = l.invariant.0;
      releases = l.invariant.1.releases;
      deadlines = l.invariant.1.deadlines;
      runs = l.invariant.1.runs;
      none = refl;
      unused = λ j k b. l.invariant.1.idle j k (omega (arith, b, valid.few_jobs, c.loop-j-test.false));
    }
