-- Two gaps that are made one cost no more than before: the deeper of their two trips serves both.
use mathlib.Core.Path.{◌≡◌, ap, subst}
use mathlib.Core.Logic.{⊎_elim, by_cases}
use Prim.Native.Nat.{ℕ, zero, suc, ◌+◌, ◌-◌, ◌*◌, ◌≤◌}
use native.Mathlib.Nat.{mul-zero, sub-zero, zero-add, add_comm, mul-le-mul_right, eq-or-lt_of_le}
use native.Mathlib.Decide.{dec_le}
use native.Mathlib.Omega.{arith}
use Rattle.device.specs.declared.Device.{Device}
use Rattle.device.specs.Row.{power_at, Sound, trip_cost, depth, gap_cost}
use Rattle.device.proofs.Chosen.{Room, chosen, gap_energy, power_falls}

module _ (d : Device) (ok : Sound d) where
  level_low : (i m : ℕ) → i ≤ m → m ≤ d.levels → power_at d m ≤ power_at d i
  level_low i m l h = ⊎_elim (λ e. omega (arith, ap (power_at d) e)) (λ k. omega (arith, power_falls d ok i m k h)) (eq-or-lt_of_le l)

  -- A stay at level m costs no more than a trip that does not go deeper.
  stay_low : (k m g : ℕ) → k ≤ m → m ≤ d.levels → Room d k g → power_at d m * g ≤ trip_cost d k g
  stay_low zero m g l h r =
      let none : trip_cost d 0 g ≡ d.pw * g = simp (mul-zero, sub-zero, zero-add) in
      omega (arith, none, mul-le-mul_right g (level_low 0 m (omega arith) h))
  stay_low (suc k) m g l h r =
      let x = d.shut * suc k in
      let y = d.wake * suc k in
      let first : power_at d m ≤ power_at d 1 = level_low 1 m (omega arith) h in
      let whole : x + y + (g - (x + y)) ≡ g = omega arith in
      let down : power_at d m * x ≤ d.pd * x = mul-le-mul_right x (omega (arith, ok.shuts_dearer)) in
      let up : power_at d m * y ≤ d.pu * y = mul-le-mul_right y (omega (arith, ok.wakes_dearer)) in
      let rest : power_at d m * (g - (x + y)) ≤ power_at d (suc k) * (g - (x + y)) = mul-le-mul_right (g - (x + y)) (level_low (suc k) m l h) in
      subst (λ (n : ℕ). power_at d m * n ≤ trip_cost d (suc k) g) whole (omega arith)

  -- A longer trip stays longer.
  trip_longer : (m g n : ℕ) → Room d m g → trip_cost d m (n + g) ≡ trip_cost d m g + power_at d m * n
  trip_longer m g n r =
      let x = d.shut * m + d.wake * m in
      let longer : n + g - x ≡ (g - x) + n = omega arith in
      rw longer (omega arith)

  one_deeper : (a b : ℕ) → depth d d.levels a ≤ depth d d.levels b → gap_cost d (a + b) ≤ gap_cost d a + gap_cost d b
  one_deeper a b l =
      let m = depth d d.levels b in
      let c = chosen d d.levels b in
      let room : Room d m (a + b) = omega (arith, c.room) in
      omega (
        arith,
        gap_energy d (a + b),
        gap_energy d a,
        gap_energy d b,
        (chosen d d.levels (a + b)).least m c.within room,
        trip_longer m b a c.room,
        stay_low (depth d d.levels a) m a l c.within (chosen d d.levels a).room,
      )

  pub gap_joined : (a b : ℕ) → gap_cost d (a + b) ≤ gap_cost d a + gap_cost d b
  gap_joined a b =
      by_cases (dec_le (depth d d.levels a) (depth d d.levels b))
      (one_deeper a b)
      (λ n. omega (arith, ap (gap_cost d) (add_comm a b), one_deeper b a (omega arith)))
