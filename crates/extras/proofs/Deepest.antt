-- A gap that is slept through at the deepest level: every longer one is, and costs just the deepest sleep more.
use mathlib.Core.Path.{◌≡◌, ap, ◌∙◌}
use Prim.Native.Nat.{ℕ, ◌+◌, ◌-◌, ◌*◌, ◌≤◌}
use native.Mathlib.Nat.{mul-add, mul-le-mul_right, mul-le-mul_left}
use native.Mathlib.Omega.{arith}
use Rattle.device.specs.declared.Device.{Device}
use Rattle.device.specs.Row.{Sound, power_at, deep, trip_cost, depth, gap_cost}
use Rattle.device.proofs.Chosen.{Room, chosen, gap_energy, deep_low}
use Rattle.keys.specs.inside.Keys.{extra}
use Rattle.extras.specs.inside.Shapes.{Stays}

module _ (d : Device) (ok : Sound d) where
  -- A trip that has room costs the power of its level for each tick more.
  trip_more : (m g t : ℕ) → Room d m g → g ≤ t → trip_cost d m t ≡ trip_cost d m g + power_at d m * (t - g)
  trip_more m g t room l =
      let z : t - (d.shut * m + d.wake * m) ≡ (g - (d.shut * m + d.wake * m)) + (t - g) = omega arith in
      rw z (omega (arith, mul-add (power_at d m) (g - (d.shut * m + d.wake * m)) (t - g)))

  pub deepest_stays : (g : ℕ) → depth d d.levels g ≡ d.levels → Stays d g (extra d g)
  unfolding extra
  deepest_stays g deepest t l =
      let room : Room d d.levels g = rw deepest at (chosen d d.levels g).room in
      let e : gap_cost d g ≡ trip_cost d d.levels g = rw deepest at (gap_energy d g) in
      let m = depth d d.levels t in
      let c = chosen d d.levels t in
      let down = mul-le-mul_left d.shut c.within in
      let up = mul-le-mul_left d.wake c.within in
      let shallow : Room d m g = omega arith in
      let least = (chosen d d.levels g).least m c.within shallow in
      let most = c.least d.levels (omega arith) (omega arith) in
      let dear = mul-le-mul_right (t - g) (deep_low d ok m c.within) in
      let z : t ≡ g + (t - g) = omega arith in
      let ticks : deep d * t ≡ deep d * g + deep d * (t - g) = ap (λ (n : ℕ). deep d * n) z ∙ mul-add (deep d) g (t - g) in
      omega (arith, gap_energy d t, gap_energy d g, trip_more m g t shallow l, trip_more d.levels g t room l)
