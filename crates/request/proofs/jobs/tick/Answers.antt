use mathlib.Core.Path.{◌≡◌}
use mathlib.Core.List.{append-nil}
use native.Mathlib.Omega.{arith}
use Rattle.request.specs.Format.{unfolded, released_at}
use Rattle.request.proofs.Packed.{tick_more, unfolded_more}
use Rattle.request.proofs.jobs.tick.Goals as goal

pub loop-i-init : goal.loop-i-init
unfolding released_at
loop-i-init c = rw append-nil c.requires.2

pub release-requires : goal.release-requires
release-requires c =
    let ok = c.requires.0 in
    let p = ok.periods c.loop-i.i (omega arith) in
    (omega (arith, ok.there), p.0, omega arith)

pub loop-i-preserved : goal.loop-i-preserved
loop-i-preserved c =
    let l = c.loop-i in
    let a = c.args in
    rw (c.release.ensures, l.invariant) (tick_more a.s.now a.from a.t (unfolded a.s.now a.tasks a.from a.t) l.i)

pub returns : goal.returns
returns c =
    let l = c.loop-i in
    let all : l.i ≡ c.args.tasks = omega arith in
    rw (l.invariant, all, unfolded_more)
