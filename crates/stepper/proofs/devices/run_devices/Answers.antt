use mathlib.Core.Path.{◌≡◌, refl, ap, ◌∙◌}
use mathlib.Core.List.{◌++◌}
use Prim.Native.Nat.{ℕ, ◌+◌, ◌*◌, ◌≤◌}
use native.Mathlib.Omega.{arith}
use lib.ListN.{drop}
use Rattle.base.specs.Lists.{up_to}
use Rattle.base.specs.Sums.{sum}
use Rattle.base.proofs.Additions.{sum_more}
use Rattle.base.proofs.Filling.{filled_start, filled_value, filled_length}
use Rattle.schedule.proofs.Bounds.{device_most_lem, devices_more}
use Rattle.steps.specs.Stepping.{spent}
use Rattle.stepper.proofs.devices.run_devices.Goals as goal
use Rattle.stepper.proofs.devices.run_devices.Goals.{After-run_device-x}

-- What the next device spends, and the sum with it.
here : (c : After-run_device-x) → (c.run_device-x.result.energy ≡ spent c.args.r c.loop-k.k c.args.starts.now) × (c.run_device-x.result.energy ≤ 268431360)
here c =
    (ap (λ x. x.energy) c.run_device-x.ensures.0, device_most_lem c.run_device-x.result.energy c.args.r.horizon c.run_device-x.ensures.1 c.requires.0.few_ticks)

more : (c : After-run_device-x)
    → (c.loop-k.total + c.run_device-x.result.energy ≤ 268431360 * (c.loop-k.k + 1)) × (c.loop-k.total + c.run_device-x.result.energy ≤ 2147450880)
more c =
    let l = c.loop-k in
    devices_more l.total l.k c.run_device-x.result.energy l.invariant.1 (omega (arith, c.loop-k-test.true, c.requires.0.few_devices)) (here c).1

pub running_order-order-requires : goal.running_order-order-requires
running_order-order-requires c = let p = c.requires in omega (arith, p.0, p.1)

pub loop-k-init : goal.loop-k-init
loop-k-init c = let a = c.args in (refl, omega arith, filled_start (λ i. spent a.r i a.starts.now) _)

pub run_device-x-requires : goal.run_device-x-requires
run_device-x-requires c = let p = c.requires in (p.0, p.1, c.running_order-order.ensures, c.loop-k-test.true)

pub bounds-out-k : goal.bounds-out-k
bounds-out-k c = omega (arith, c.loop-k-test.true, c.requires.2, filled_length c.loop-k.invariant.2 (omega (arith, c.requires.2, c.loop-k-test.true)))

pub overflow_add-total : goal.overflow_add-total
overflow_add-total c = omega (arith, more (goal.at.overflow_add-total c).After-run_device-x)

pub loop-k-preserved : goal.loop-k-preserved
loop-k-preserved c =
    let p = (goal.at.loop-k-preserved c).After-run_device-x in
    let a = c.args in
    let l = c.loop-k in
    let f : ℕ → ℕ = λ i. spent a.r i a.starts.now in (
      omega (arith, here p, l.invariant.0, sum_more l.k f),
      (more p).0,
      filled_value f l.invariant.2 (omega (arith, c.loop-k-test.true, c.requires.2)) c.run_device-x.result.energy (here p).0,
    )

pub shape_of-out : goal.shape_of-out
shape_of-out c = filled_length c.loop-k.invariant.2 (omega (arith, c.requires.2, c.loop-k.auto.k-end))

pub returns : goal.returns
returns c =
    let a = c.args in
    let l = c.loop-k in
    let f : ℕ → ℕ = λ i. spent a.r i a.starts.now in
    let all : l.k ≡ a.r.devices.count = omega (arith, c.loop-k-test.false, l.auto.k-end) in
    (l.invariant.0 ∙ ap (λ (n : ℕ). sum n f) all, l.invariant.2.is ∙ ap (λ (n : ℕ). up_to f n ++ drop n a.out.now) all)
