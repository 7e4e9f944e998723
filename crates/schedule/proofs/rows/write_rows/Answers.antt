use mathlib.Core.Path.{◌≡◌, ap, subst, ◌∙◌}
use mathlib.Core.Bool.{Bool}
use mathlib.Core.List.{List, ◌++◌, map}
use Prim.Native.Nat.{ℕ, ◌≤◌, ◌+◌, ◌-◌, ◌*◌}
use native.Mathlib.Nat.{mul-le-mul_right, mul-le-mul}
use native.Mathlib.Omega.{arith}
use lib.ListN.{length, take, drop, length-take, length-drop}
use Rattle.base.proofs.Filling.{filled_length}
use Rattle.device.specs.Row.{byte_of, row_of}
use Rattle.schedule.specs.Quantities.{device}
use Rattle.schedule.specs.Listing.{laid}
use Rattle.schedule.specs.Visiting.{plan_row}
use Rattle.schedule.proofs.Laying.{laid_none, laid_row}
use Rattle.schedule.proofs.Summing.{Summed, summed_none, summed_more, summed_all}
use Rattle.schedule.proofs.Usage.{pattern_uses}
use Rattle.schedule.proofs.rows.write_rows.Goals as goal
use Rattle.schedule.proofs.rows.write_rows.Goals.{In-loop-k, After-energy_of-sum}

-- The energy with one device more.
more : (c : After-energy_of-sum) → let l = c.loop-k in let a = c.args in
    (l.sum + c.energy_of-sum.result ≤ 2147450880) × Summed a.r a.starts.now (l.k + 1) (l.sum + c.energy_of-sum.result)
more c = let l = c.loop-k in summed_more _ _ c.requires.0 l.k l.sum _ _ l.invariant.0 c.loop-k-test.true c.uses_of-uses.ensures c.energy_of-sum.ensures

-- Its row has room.
roomy : (c : In-loop-k) → let h = c.args.r.horizon in
    ((c.loop-k.k + 1) * h ≤ length c.args.out.now) × (c.loop-k.k * h + h ≤ length c.loop-k.out) × (c.loop-k.k * h ≤ 32768)
roomy c =
    let h = c.args.r.horizon in
    let k = c.loop-k.k in
    let next : (k + 1) * h ≤ c.args.r.devices.count * h = mul-le-mul_right h (omega arith) in
    let size = filled_length c.loop-k.invariant.1 (omega (arith, c.requires.2)) in
    let few : k ≤ 8 = omega (arith, c.requires.0) in
    let most : k * h ≤ 8 * 4096 = mul-le-mul few c.requires.0.few_ticks in
    omega (arith, c.requires.2)

pub running_order-order-requires : goal.running_order-order-requires
running_order-order-requires c = let p = c.requires in omega (arith, p.0, p.1)

pub loop-k-init : goal.loop-k-init
loop-k-init c = let a = c.args in (summed_none _ _, laid_none a.r a.starts.now a.out.now)

pub uses_of-uses-requires : goal.uses_of-uses-requires
uses_of-uses-requires c = let p = c.requires in (p.0, p.1, c.running_order-order.ensures, c.loop-k-test.true)

pub energy_of-sum-requires : goal.energy_of-sum-requires
energy_of-sum-requires c = (c.requires.0.sound c.loop-k.k c.loop-k-test.true, c.uses_of-uses.ensures.spaced)

pub overflow_add-sum : goal.overflow_add-sum
overflow_add-sum c = omega (arith, (more (goal.at.overflow_add-sum c).After-energy_of-sum).0)

pub overflow_mul-at : goal.overflow_mul-at
overflow_mul-at c = omega (arith, roomy (goal.at.overflow_mul-at c).In-loop-k)

pub slice_bounds-write_row-count : goal.slice_bounds-write_row-count
slice_bounds-write_row-count c = omega (arith, roomy (goal.at.slice_bounds-write_row-count c).In-loop-k)

pub slice_bounds-write_row-start : goal.slice_bounds-write_row-start
slice_bounds-write_row-start c = omega (arith, roomy (goal.at.slice_bounds-write_row-start c).In-loop-k)

pub slice_bounds-write_row-end : goal.slice_bounds-write_row-end
slice_bounds-write_row-end c = omega (arith, roomy (goal.at.slice_bounds-write_row-end c).In-loop-k)

pub write_row-requires : goal.write_row-requires
write_row-requires c =
    let room = roomy (goal.at.write_row-requires c).In-loop-k in
    (c.requires.0.sound c.loop-k.k c.loop-k-test.true, (c.uses_of-uses.ensures.spaced, simp (length-take, length-drop) (omega (arith, room))))

pub loop-k-preserved : goal.loop-k-preserved
loop-k-preserved c =
    let p = goal.at.loop-k-preserved c in
    let R = c.args.r in
    let l = c.loop-k in (
      (more p.After-energy_of-sum).1,
      laid_row R c.args.starts.now l.k l.invariant.1 (roomy p.In-loop-k).0 c.write_row.new.out
          (c.write_row.ensures ∙ ap (λ (u : List Bool). map (byte_of R.sleeps) (row_of R.round (device R l.k) u) ++ drop R.horizon (take (length l.out - l.k * R.horizon) (drop (l.k * R.horizon) l.out))) (pattern_uses c.uses_of-uses.ensures)),
    )

pub shape_of-out : goal.shape_of-out
shape_of-out c = filled_length c.loop-k.invariant.1 (omega (arith, mul-le-mul_right c.args.r.horizon c.loop-k.auto.k-end, c.requires.2))

pub returns : goal.returns
returns c =
    let a = c.args in
    let l = c.loop-k in
    let all : l.k ≡ a.r.devices.count = omega arith in (
      summed_all a.r a.starts.now l.sum (subst (λ (n : ℕ). Summed a.r a.starts.now n l.sum) all l.invariant.0),
      l.invariant.1.is ∙ ap (λ (n : ℕ). laid a.r.sleeps (plan_row a.r a.starts.now) n ++ drop (n * a.r.horizon) a.out.now) all,
    )
