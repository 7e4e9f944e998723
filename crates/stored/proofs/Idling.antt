-- The numbers of a key, as the code works them out of the lent numbers: device by device, and none of them is more than sixteen bits hold.
use mathlib.Core.Path.{◌≡◌}
use mathlib.Core.Bool.{cond}
use mathlib.Core.List.{List}
use Prim.Native.Nat.{ℕ, ◌+◌, ◌-◌, ◌≤◌, ◌<◌, min}
use native.Mathlib.Omega.{arith}
use lib.Dec.{ltb}
use borrow.Author.Tests.{lt-ltb, le-ltb}
use Rattle.base.proofs.Cases.{cond_cases}
use Rattle.schedule.specs.declared.Recorder.{Recorder}
use Rattle.vertex.specs.inside.Shown.{end_at, first_at, ahead_at, fresh}
use Rattle.stored.specs.inside.Naming.{idle_by, first_by}

module _ (R : Recorder) (cap : ℕ → ℕ) (l : List ℕ) (k : ℕ) where
  -- A device that is there.
  pub idle_there :
      (t x : ℕ) → k < R.devices.count → cap k ≤ 4096
      → x ≡ cond (ltb 0 (ahead_at l k)) (cond (fresh R l k) 0 (min (t - end_at l k) (cap k))) (min (first_at l k + (R.horizon - end_at l k)) (cap k))
      → (x ≡ idle_by R cap l t k) × (x < 65536)
  unfolding idle_by
  idle_there t x b low e =
      let most : x ≤ 4096 = rw e (cond_cases (λ (n : ℕ). n ≤ 4096) (ltb 0 (ahead_at l k))
      (λ q. cond_cases (λ (n : ℕ). n ≤ 4096) (fresh R l k) (λ z. omega arith) (λ z. omega arith)) (λ q. omega arith)) in
      (rw (lt-ltb k R.devices.count b) e, omega arith)

  pub first_there : (x : ℕ) → k < R.devices.count → cap k ≤ 4096 → 0 < ahead_at l k → x ≡ min (first_at l k) (cap k) → (x ≡ first_by R cap l k) × (x < 65536)
  unfolding first_by
  first_there x b low q e = (rw (lt-ltb k R.devices.count b, lt-ltb 0 (ahead_at l k) q) e, omega arith)

  -- One that is needed no more was first used at no time, and one that is not there has nothing.
  pub first_over : k < R.devices.count → ahead_at l k ≤ 0 → (0 ≡ first_by R cap l k) × (0 < 65536)
  unfolding first_by
  first_over b q = (rw (lt-ltb k R.devices.count b, le-ltb 0 (ahead_at l k) q), omega arith)

  pub idle_none : (t : ℕ) → R.devices.count ≤ k → (0 ≡ idle_by R cap l t k) × (0 < 65536)
  unfolding idle_by
  idle_none t b = (rw (le-ltb k R.devices.count b), omega arith)

  pub first_none : R.devices.count ≤ k → (0 ≡ first_by R cap l k) × (0 < 65536)
  unfolding first_by
  first_none b = (rw (le-ltb k R.devices.count b), omega arith)
