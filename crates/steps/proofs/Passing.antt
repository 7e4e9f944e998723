-- Ticks in which nothing happens, all at once: the state after them, and their energy.
use mathlib.Core.Path.{◌≡◌, ap, ◌∙◌}
use Prim.Native.Nat.{ℕ, zero, suc, ◌+◌, ◌-◌, ◌*◌, ◌≤◌, ◌<◌, min}
use native.Mathlib.Omega.{arith}
use Rattle.device.specs.declared.Device.{Device}
use Rattle.device.specs.Row.{power_at, energy}
use Rattle.steps.specs.declared.State.TheVariants.{Working, Asleep, Down, Up}
use Rattle.steps.specs.Stepping.{falling, rising, alone, later}
use Rattle.steps.proofs.Moves.{later_work, later_sleep, later_falling, later_rising}

-- ---- a move that is over, and one that is not

pub later_down : (n m : ℕ) → 1 ≤ n → m ≤ n → later n (Down m) ≡ Asleep
unfolding later
later_down zero m l h = absurd (omega arith)
later_down (suc n) zero l h = later_sleep n
later_down (suc n) (suc m) l h = later_falling m n (omega arith)

pub later_up : (n m : ℕ) → 1 ≤ n → m ≤ n → later n (Up m) ≡ Working
unfolding later
later_up zero m l h = absurd (omega arith)
later_up (suc n) zero l h = later_work n
later_up (suc n) (suc m) l h = later_rising m n (omega arith)

pub down_left : (n m : ℕ) → n < m → Down (m - n) ≡ later n (Down m)
unfolding later
down_left zero m h = let e : m - 0 ≡ m = omega arith in ap Down e
down_left (suc n) zero h = absurd (omega arith)
down_left (suc n) (suc zero) h = absurd (omega arith)
down_left (suc n) (suc (suc m)) h = let e : suc (suc m) - suc n ≡ suc m - n = omega arith in ap Down e ∙ down_left n (suc m) (omega arith)

pub up_left : (n m : ℕ) → n < m → Up (m - n) ≡ later n (Up m)
unfolding later
up_left zero m h = let e : m - 0 ≡ m = omega arith in ap Up e
up_left (suc n) zero h = absurd (omega arith)
up_left (suc n) (suc zero) h = absurd (omega arith)
up_left (suc n) (suc (suc m)) h = let e : suc (suc m) - suc n ≡ suc m - n = omega arith in ap Up e ∙ up_left n (suc m) (omega arith)

-- ---- energy

module _ (d : Device) where
  pub energy_work : (n : ℕ) → d.pw * n ≡ energy d (alone n Working)
  unfolding alone
  energy_work zero = omega arith
  energy_work (suc n) = omega (arith, energy_work n)

  pub energy_sleep : (n : ℕ) → power_at d 1 * n ≡ energy d (alone n Asleep)
  unfolding alone
  energy_sleep zero = omega arith
  energy_sleep (suc n) = omega (arith, energy_sleep n)

  -- One tick more of a move that has ticks left.
  more : (p0 p e n m : ℕ) → p0 * min m n + p * (n - m) ≡ e → p0 * min (suc m) (suc n) + p * (suc n - suc m) ≡ p0 + e
  more p0 p e n m h =
      let a : min (suc m) (suc n) ≡ suc (min m n) = omega arith in
      let b : suc n - suc m ≡ n - m = omega arith in
      rw (a, b) (omega (arith, h))

  over : (p0 p n : ℕ) → p0 * min 0 n + p * (n - 0) ≡ p * n
  over p0 p n =
      let a : min 0 n ≡ 0 = omega arith in
      let b : n - 0 ≡ n = omega arith in
      rw (a, b) (omega arith)

  none : (p0 p m : ℕ) → p0 * min m 0 + p * (0 - m) ≡ 0
  none p0 p m =
      let a : min m 0 ≡ 0 = omega arith in
      let b : 0 - m ≡ 0 = omega arith in
      rw (a, b) (omega arith)

  energy_falling : (n m : ℕ) → d.pd * min m n + power_at d 1 * (n - m) ≡ energy d (alone n (falling m))
  unfolding alone
  energy_falling n zero = over d.pd (power_at d 1) n ∙ energy_sleep n
  energy_falling zero (suc m) = none d.pd (power_at d 1) (suc m)
  energy_falling (suc n) (suc m) = more d.pd (power_at d 1) (energy d (alone n (falling m))) n m (energy_falling n m)

  energy_rising : (n m : ℕ) → d.pu * min m n + d.pw * (n - m) ≡ energy d (alone n (rising m))
  unfolding alone
  energy_rising n zero = over d.pu d.pw n ∙ energy_work n
  energy_rising zero (suc m) = none d.pu d.pw (suc m)
  energy_rising (suc n) (suc m) = more d.pu d.pw (energy d (alone n (rising m))) n m (energy_rising n m)

  pub energy_down : (n m : ℕ) → d.pd * min m n + power_at d 1 * (n - m) ≡ energy d (alone n (Down m))
  unfolding alone
  energy_down zero m = none d.pd (power_at d 1) m
  energy_down (suc n) zero = over d.pd (power_at d 1) (suc n) ∙ energy_sleep (suc n)
  energy_down (suc n) (suc m) = energy_falling (suc n) (suc m)

  pub energy_up : (n m : ℕ) → d.pu * min m n + d.pw * (n - m) ≡ energy d (alone n (Up m))
  unfolding alone
  energy_up zero m = none d.pu d.pw m
  energy_up (suc n) zero = over d.pu d.pw (suc n) ∙ energy_work (suc n)
  energy_up (suc n) (suc m) = energy_rising (suc n) (suc m)
