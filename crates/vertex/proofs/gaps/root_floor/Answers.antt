use mathlib.Core.Path.{◌≡◌, refl, ap, ◌∙◌}
use Prim.Native.Nat.{ℕ, ◌+◌, ◌≤◌, ◌*◌}
use native.Mathlib.Omega.{arith}
use Rattle.base.specs.Sums.{sum}
use Rattle.base.proofs.Additions.{sum_more}
use Rattle.schedule.proofs.Bounds.{devices_more}
use Rattle.flat.specs.inside.Flat.{recorder_of}
use Rattle.vertex.specs.inside.Shown.{idle_floor}
use Rattle.vertex.proofs.gaps.root_floor.Goals as goal

pub loop-k-init : goal.loop-k-init
loop-k-init c = (omega (arith, c.device_count-m.ensures, c.requires.0.valid.few_devices), refl, omega arith)

pub deep_power-requires : goal.deep_power-requires
deep_power-requires c =
    (omega arith, c.requires.0.valid.sound c.loop-k.k (omega (arith, c.loop-k-test.true, c.device_count-m.ensures)))

pub floor_with-sum-requires : goal.floor_with-sum-requires
floor_with-sum-requires c =
    let ahead = c.requires.1 c.loop-k.k (omega (arith, c.loop-k-test.true, c.device_count-m.ensures)) in
    rw (c.from-h.ensures, c.horizon_of.ensures) (ahead, c.requires.0.valid.few_ticks)

pub overflow_add-sum : goal.overflow_add-sum
overflow_add-sum c =
    let more : let l = c.loop-k in
    (l.sum + c.floor_with-sum.result ≤ 268431360 * (l.k + 1)) × (l.sum + c.floor_with-sum.result ≤ 2147450880) = let l = c.loop-k in
    devices_more l.sum l.k c.floor_with-sum.result l.invariant.2 (omega arith) c.floor_with-sum.ensures.1 in
    omega (arith, more)

pub loop-k-preserved : goal.loop-k-preserved
unfolding idle_floor
loop-k-preserved c =
    let more : let l = c.loop-k in
    (l.sum + c.floor_with-sum.result ≤ 268431360 * (l.k + 1)) × (l.sum + c.floor_with-sum.result ≤ 2147450880) = let l = c.loop-k in
    devices_more l.sum l.k c.floor_with-sum.result l.invariant.2 (omega arith) c.floor_with-sum.ensures.1 in
    let l = c.loop-k in
    let a = c.args in
    let R = recorder_of a.r.now in
    let here : c.floor_with-sum.result ≡ idle_floor R a.v.now l.k
    = rw (c.work_power.ensures, c.deep_power.ensures, c.from-h.ensures, c.horizon_of.ensures) at c.floor_with-sum.ensures.0 in
    (l.invariant.0, omega (arith, here, l.invariant.1, sum_more l.k (idle_floor R a.v.now)), more.0)

pub returns : goal.returns
returns c =
    let a = c.args in
    let R = recorder_of a.r.now in
    let l = c.loop-k in
    let all : l.k ≡ R.devices.count = omega (arith, c.device_count-m.ensures) in
    (l.invariant.1 ∙ ap (λ (n : ℕ). sum n (idle_floor R a.v.now)) all, omega (arith, l.auto.k-end, l.invariant.0, l.invariant.2))
