use mathlib.Core.Path.{◌≡◌, ap, ◌∙◌}
use mathlib.Core.Bool.{true}
use Prim.Native.Nat.{ℕ, ◌+◌, ◌≤◌, ◌<◌, ◌*◌}
use native.Mathlib.Omega.{arith}
use Rattle.schedule.specs.Quantities.{uses}
use Rattle.schedule.proofs.Bounds.{devices_more}
use Rattle.flat.specs.inside.Flat.{recorder_of}
use Rattle.extras.specs.inside.Jobs.{used_at}
use Rattle.extras.proofs.Uses.{used_most, listed, sum_to_none, sum_to_next}
use Rattle.vertex.specs.inside.Gaps.{gap_by}
use Rattle.vertex.proofs.Ending.{gap_none, gap_used}
use Rattle.vertex.proofs.gaps.gaps_of.Goals as goal

pub used_count-n-requires : goal.used_count-n-requires
used_count-n-requires c = (c.requires.1.0, omega (arith, c.requires.0.room.long))

pub loop-i-init : goal.loop-i-init
loop-i-init c =
    let a = c.args in
    let R = recorder_of a.r.now in
    let w = c.requires.0.lists a.j c.requires.1.0 in
    let all = c.used_count-n.ensures ∙ w.count in (
      all,
      omega (arith, all, used_most R a.j R.devices.count, c.requires.0.valid.few_devices),
      sum_to_none w (gap_by R a.extras.now a.v.now a.later a.j a.s) (gap_none R a.v.now a.extras.now a.later a.j a.s),
      omega arith,
    )

pub used_at-k-requires : goal.used_at-k-requires
used_at-k-requires c =
    (c.requires.1.0, (omega (arith, c.loop-i-test.true, c.loop-i.invariant.1), omega (arith, c.requires.0.room.long)))

pub bounds-v-k : goal.bounds-v-k
bounds-v-k c =
    let used : let a = c.args in
    let R = recorder_of a.r.now in (c.used_at-k.result < R.devices.count) × (uses R c.used_at-k.result a.j ≡ true) = let t = listed (c.requires.0.lists c.args.j c.requires.1.0) c.loop-i.i (omega (arith, c.loop-i-test.true, c.loop-i.invariant.0)) in
    rw c.used_at-k.ensures (t.0, t.1) in
    omega (arith, used.0, c.requires.0.valid.few_devices)

pub gap_with-sum-requires : goal.gap_with-sum-requires
gap_with-sum-requires c =
    let used : let a = c.args in
    let R = recorder_of a.r.now in (c.used_at-k.result < R.devices.count) × (uses R c.used_at-k.result a.j ≡ true) = let t = listed (c.requires.0.lists c.args.j c.requires.1.0) c.loop-i.i (omega (arith, c.loop-i-test.true, c.loop-i.invariant.0)) in
    rw c.used_at-k.ensures (t.0, t.1) in
    let valid = c.requires.0.valid in
    let o = c.requires.1.1 in
    let few = used.0 in
    (omega (arith, few, valid.few_devices), (o.ends c.used_at-k.result few, (omega (arith, o.by, valid.few_ticks), omega (arith, o.by, c.requires.0.room.reach (omega (arith, few))))))

pub overflow_add-sum : goal.overflow_add-sum
overflow_add-sum c =
    let used : let a = c.args in
    let R = recorder_of a.r.now in (c.used_at-k.result < R.devices.count) × (uses R c.used_at-k.result a.j ≡ true) = let t = listed (c.requires.0.lists c.args.j c.requires.1.0) c.loop-i.i (omega (arith, c.loop-i-test.true, c.loop-i.invariant.0)) in
    rw c.used_at-k.ensures (t.0, t.1) in
    let here : let a = c.args in
    (c.gap_with-sum.result ≡ gap_by (recorder_of a.r.now) a.extras.now a.v.now a.later a.j a.s c.used_at-k.result) × (c.gap_with-sum.result ≤ 268431360) = let a = c.args in
    let u = used in
    gap_used (recorder_of a.r.now) a.v.now a.extras.now a.later c.requires.0 a.j a.s c.used_at-k.result c.gap_with-sum.result u.0 u.1
    c.requires.1.1.by (rw c.is_round-round.ensures at c.gap_with-sum.ensures) in
    let more : let l = c.loop-i in
    (l.sum + c.gap_with-sum.result ≤ 268431360 * (l.i + 1)) × (l.sum + c.gap_with-sum.result ≤ 2147450880) = let l = c.loop-i in
    devices_more l.sum l.i c.gap_with-sum.result l.invariant.3 (omega (arith, c.loop-i-test.true, l.invariant.1)) here.1 in
    omega (arith, more)

pub loop-i-preserved : goal.loop-i-preserved
loop-i-preserved c =
    let used : let a = c.args in
    let R = recorder_of a.r.now in (c.used_at-k.result < R.devices.count) × (uses R c.used_at-k.result a.j ≡ true) = let t = listed (c.requires.0.lists c.args.j c.requires.1.0) c.loop-i.i (omega (arith, c.loop-i-test.true, c.loop-i.invariant.0)) in
    rw c.used_at-k.ensures (t.0, t.1) in
    let here : let a = c.args in
    (c.gap_with-sum.result ≡ gap_by (recorder_of a.r.now) a.extras.now a.v.now a.later a.j a.s c.used_at-k.result) × (c.gap_with-sum.result ≤ 268431360) = let a = c.args in
    let u = used in
    gap_used (recorder_of a.r.now) a.v.now a.extras.now a.later c.requires.0 a.j a.s c.used_at-k.result c.gap_with-sum.result u.0 u.1
    c.requires.1.1.by (rw c.is_round-round.ensures at c.gap_with-sum.ensures) in
    let more : let l = c.loop-i in
    (l.sum + c.gap_with-sum.result ≤ 268431360 * (l.i + 1)) × (l.sum + c.gap_with-sum.result ≤ 2147450880) = let l = c.loop-i in
    devices_more l.sum l.i c.gap_with-sum.result l.invariant.3 (omega (arith, c.loop-i-test.true, l.invariant.1)) here.1 in
    let l = c.loop-i in
    let a = c.args in
    let R = recorder_of a.r.now in
    let f = gap_by R a.extras.now a.v.now a.later a.j a.s in
    let w = c.requires.0.lists a.j c.requires.1.0 in
    let is : c.gap_with-sum.result ≡ f (used_at a.extras.now a.j l.i) = here.0 ∙ ap f c.used_at-k.ensures in (
      l.invariant.0,
      l.invariant.1,
      (λ n b e. ap (λ (x : ℕ). l.sum + x) is ∙ sum_to_next w f (gap_none R a.v.now a.extras.now a.later a.j a.s) l.i l.sum l.invariant.2 n b e),
      more.0,
    )

pub returns : goal.returns
returns c =
    let a = c.args in
    let R = recorder_of a.r.now in
    let l = c.loop-i in
    (l.invariant.2 R.devices.count (omega arith) (omega (arith, c.loop-i-test.false, l.auto.i-end, l.invariant.0)), omega (arith, l.auto.i-end, l.invariant.1, l.invariant.3))

pub offset_bounds-v-k : goal.offset_bounds-v-k
offset_bounds-v-k c =
    let used : let a = c.args in
    let R = recorder_of a.r.now in (c.used_at-k.result < R.devices.count) × (uses R c.used_at-k.result a.j ≡ true) = let t = listed (c.requires.0.lists c.args.j c.requires.1.0) c.loop-i.i (omega (arith, c.loop-i-test.true, c.loop-i.invariant.0)) in
    rw c.used_at-k.ensures (t.0, t.1) in
    omega (arith, used.0, c.requires.0.valid.few_devices)
