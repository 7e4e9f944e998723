use mathlib.Core.Path.{◌≡◌, refl, ap, ◌∙◌}
use Prim.Native.Nat.{ℕ, ◌+◌, ◌≤◌, ◌<◌, ◌*◌}
use native.Mathlib.Omega.{arith}
use Rattle.base.specs.Sums.{sum}
use Rattle.base.proofs.Additions.{sum_more}
use Rattle.schedule.proofs.Bounds.{devices_more}
use Rattle.flat.specs.inside.Flat.{recorder_of}
use Rattle.vertex.specs.inside.Shown.{close_by}
use Rattle.vertex.proofs.gaps.close_of.Goals as goal

pub loop-k-init : goal.loop-k-init
loop-k-init c = (omega (arith, c.device_count-m.ensures, c.requires.0.valid.few_devices), refl, omega arith)

pub close_with-sum-requires : goal.close_with-sum-requires
close_with-sum-requires c =
    let few : c.loop-k.k < (recorder_of c.args.r.now).devices.count = omega (arith, c.loop-k-test.true, c.device_count-m.ensures) in
    rw (c.from-h.ensures, c.horizon_of.ensures)
    (c.requires.0, (few, (c.requires.1.firsts c.loop-k.k few, (c.requires.1.ends c.loop-k.k few, omega arith))))

pub overflow_add-sum : goal.overflow_add-sum
overflow_add-sum c =
    let more : let l = c.loop-k in
    (l.sum + c.close_with-sum.result ≤ 268431360 * (l.k + 1)) × (l.sum + c.close_with-sum.result ≤ 2147450880) = let l = c.loop-k in
    devices_more l.sum l.k c.close_with-sum.result l.invariant.2 (omega arith) c.close_with-sum.ensures.1 in
    omega (arith, more)

pub loop-k-preserved : goal.loop-k-preserved
unfolding close_by
loop-k-preserved c =
    let more : let l = c.loop-k in
    (l.sum + c.close_with-sum.result ≤ 268431360 * (l.k + 1)) × (l.sum + c.close_with-sum.result ≤ 2147450880) = let l = c.loop-k in
    devices_more l.sum l.k c.close_with-sum.result l.invariant.2 (omega arith) c.close_with-sum.ensures.1 in
    let l = c.loop-k in
    let a = c.args in
    let R = recorder_of a.r.now in
    let here : c.close_with-sum.result ≡ close_by R a.v.now l.k
    = rw (c.is_round-round.ensures, c.from-h.ensures, c.horizon_of.ensures) at c.close_with-sum.ensures.0 in
    (l.invariant.0, omega (arith, here, l.invariant.1, sum_more l.k (close_by R a.v.now)), more.0)

pub returns : goal.returns
returns c =
    let a = c.args in
    let R = recorder_of a.r.now in
    let l = c.loop-k in
    let all : l.k ≡ R.devices.count = omega (arith, c.device_count-m.ensures) in
    (l.invariant.1 ∙ ap (λ (n : ℕ). sum n (close_by R a.v.now)) all, omega (arith, l.auto.k-end, l.invariant.0, l.invariant.2))
