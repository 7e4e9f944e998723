use mathlib.Core.Path.{◌≡◌, subst}
use Prim.Native.Nat.{ℕ, ◌+◌, ◌≤◌}
use native.Mathlib.Omega.{arith}
use Rattle.schedule.proofs.Summing.{Summed, summed_none, summed_more, summed_all}
use Rattle.schedule.proofs.rows.plan_energy.Goals as goal
use Rattle.schedule.proofs.rows.plan_energy.Goals.{After-energy_of-sum}

-- The energy with one device more.
more : (c : After-energy_of-sum) → let l = c.loop-k in let a = c.args in
    (l.sum + c.energy_of-sum.result ≤ 2147450880) × Summed a.r a.starts.now (l.k + 1) (l.sum + c.energy_of-sum.result)
more c = let l = c.loop-k in summed_more _ _ c.requires.0 l.k l.sum _ _ l.invariant c.loop-k-test.true c.uses_of-uses.ensures c.energy_of-sum.ensures

pub running_order-order-requires : goal.running_order-order-requires
running_order-order-requires c = let p = c.requires in omega (arith, p.0, p.1)

pub loop-k-init : goal.loop-k-init
loop-k-init c = summed_none _ _

pub uses_of-uses-requires : goal.uses_of-uses-requires
uses_of-uses-requires c = let p = c.requires in (p.0, p.1, c.running_order-order.ensures, c.loop-k-test.true)

pub energy_of-sum-requires : goal.energy_of-sum-requires
energy_of-sum-requires c = (c.requires.0.sound c.loop-k.k c.loop-k-test.true, c.uses_of-uses.ensures.spaced)

pub overflow_add-sum : goal.overflow_add-sum
overflow_add-sum c = omega (arith, (more (goal.at.overflow_add-sum c).After-energy_of-sum).0)

pub loop-k-preserved : goal.loop-k-preserved
loop-k-preserved c = (more (goal.at.loop-k-preserved c).After-energy_of-sum).1

pub returns : goal.returns
returns c =
    let a = c.args in
    let all : c.loop-k.k ≡ a.r.devices.count = omega arith in
    summed_all a.r a.starts.now c.loop-k.sum (subst (λ (n : ℕ). Summed a.r a.starts.now n c.loop-k.sum) all c.loop-k.invariant)
