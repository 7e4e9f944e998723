use mathlib.Core.Path.{◌≡◌, sym, ◌∙◌, subst}
use Prim.Native.Nat.{ℕ, ◌<◌}
use native.Mathlib.Omega.{arith}
use Rattle.schedule.specs.Quantities.{jobs}
use Rattle.flat.specs.inside.Flat.{recorder_of}
use Rattle.base.proofs.Numbers.{halved}
use Rattle.vertex.specs.inside.Lasts.{TwoLeast}
use Rattle.vertex.proofs.Lasting.{two_least_none, two_least_passed, two_least_with, bit_is, bit_not}
use Rattle.vertex.proofs.dues.dues_in.Goals as goal
use Rattle.vertex.proofs.dues.dues_in.Goals.{else-rest-eq1, then-rest-eq1}

pub loop-i-init : goal.loop-i-init
loop-i-init c = (omega (arith, c.job_count-n.ensures, c.requires.valid.few_jobs), omega arith, two_least_none _ _)

pub last_start-requires : goal.last_start-requires
last_start-requires c =
    (omega (arith, c.loop-i-test.true, c.loop-i.invariant.0), c.requires.room.long)

pub loop-i-preserved : goal.loop-i-preserved
loop-i-preserved c =
    let l = c.loop-i in
    let R = recorder_of c.args.r.now in
    let known : l.i < jobs R = omega (arith, c.loop-i-test.true, c.job_count-n.ensures) in
    let few : l.i < 16 = omega (arith, c.loop-i-test.true, l.invariant.0) in
    elim c.if-rest-eq1.branch [ then-rest-eq1 w ↦ (l.invariant.0, rw l.invariant.1 (halved _ _), subst (TwoLeast _ _ _) (sym (w.dues-is ∙ w.due_with-dues.ensures)) (two_least_with _ _ _ _ l.invariant.2 (bit_is _ _ _ l.invariant.1 w.if-rest-eq1.true) (omega (arith, c.requires.valid.ends l.i known, c.requires.valid.few_ticks)) _ (w.last_start.ensures ∙ (c.requires.lists l.i few).last))) | else-rest-eq1 w ↦ (l.invariant.0, rw l.invariant.1 (halved _ _), subst (TwoLeast _ _ _) (sym w.dues-is) (two_least_passed _ _ _ _ l.invariant.2 (bit_not _ _ _ l.invariant.1 w.if-rest-eq1.false))) ]

pub returns : goal.returns
returns c =
    let l = c.loop-i in
    let R = recorder_of c.args.r.now in
    let all : l.i ≡ R.jobs.count = omega (arith, c.job_count-n.ensures) in
    subst (λ (n : ℕ). TwoLeast R c.args.set n l.dues) all l.invariant.2
