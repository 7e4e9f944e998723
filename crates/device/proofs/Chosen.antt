-- The level chosen for a gap, and the gap's row by it: its length, its energy as a number, and between which bounds this lies. In the words of specs/Row.
use mathlib.Core.Path.{◌≡◌, refl, ap, subst}
use mathlib.Core.Bool.{Bool, true, false, cond, ◌&&◌}
use mathlib.Core.List.{[]}
use mathlib.Core.Logic.{⊎_elim}
use Prim.Native.Nat.{ℕ, zero, suc, ◌+◌, ◌-◌, ◌*◌, ◌≤◌, ◌<◌}
use native.Mathlib.Nat.{mul-zero, sub-zero, zero-add, add-suc, mul-le-mul_right, eq-or-lt_of_le}
use native.Mathlib.Numerals.{add-one}
use native.Mathlib.Omega.{arith}
use lib.Dec.{leb, ltb}
use lib.ListN.{length, length-append, length-replicate}
use borrow.Author.Tests.{leb-true, leb-false, ltb-true, ltb-false, le-leb, lt-leb, lt-ltb, le-ltb}
use Rattle.base.proofs.Additions.{total_append, total_replicate}
use Rattle.device.specs.declared.Device.{Device}
use Rattle.device.specs.Row.{power_at, deep, Sound, energy, moved, trip, trip_cost, depth, gap_row, gap_cost}
use Rattle.device.proofs.Prefix.{nothing}

module _ (d : Device) where
  -- A trip to level m has room in a gap of g ticks.
  abbrev pub Room : ℕ → ℕ → Type 0
  Room m g = d.shut * m + d.wake * m ≤ g

  -- Of the levels up to n that have room, m is the one of least cost, and of these the shallowest.
  pub record Shallowest (n g m : ℕ) : Type 0 where
    pub within : m ≤ n
    pub room : Room m g
    pub least : (k : ℕ) → k ≤ n → Room k g → trip_cost d m g ≤ trip_cost d k g
    pub shallower : (k : ℕ) → k ≤ n → Room k g → trip_cost d k g ≤ trip_cost d m g → m ≤ k

  deeper : (n g m : ℕ) → Shallowest n g m → Room (suc n) g → trip_cost d (suc n) g < trip_cost d m g → Shallowest (suc n) g (suc n)
  deeper n g m c room less = record {
    within = omega arith;
    room = room;
    least = λ k h r. ⊎_elim (λ e. omega (arith, ap (λ (i : ℕ). trip_cost d i g) e)) (λ l. omega (arith, c.least k (omega arith) r)) (eq-or-lt_of_le h);
    shallower = λ k h r q. ⊎_elim (λ e. omega arith) (λ l. absurd (omega (arith, c.least k (omega arith) r))) (eq-or-lt_of_le h);
  }

  stays : (n g m : ℕ) → Shallowest n g m → (Room (suc n) g → trip_cost d m g ≤ trip_cost d (suc n) g) → Shallowest (suc n) g m
  stays n g m c dear = record {
    within = omega (arith, c.within);
    room = c.room;
    least = λ k h r. ⊎_elim (λ e. rw e (dear (rw e at r))) (λ l. c.least k (omega arith) r) (eq-or-lt_of_le h);
    shallower = λ k h r q. ⊎_elim (λ e. omega (arith, c.within)) (λ l. c.shallower k (omega arith) r q) (eq-or-lt_of_le h);
  }

  pub chosen : (n g : ℕ) → Shallowest n g (depth d n g)
  chosen zero g = record { within = omega arith; room = omega arith; least = least; shallower = λ k h r q. omega arith }
    where
      least : (k : ℕ) → k ≤ 0 → Room k g → trip_cost d 0 g ≤ trip_cost d k g
      least zero h r = omega arith
      least (suc k) h r = absurd (omega arith)
  chosen (suc n) g = go (leb (d.shut * suc n + d.wake * suc n) g) (ltb (trip_cost d (suc n) g) (trip_cost d (depth d n g) g)) refl refl (chosen n g)
    where
      go : (a b : Bool) → leb (d.shut * suc n + d.wake * suc n) g ≡ a → ltb (trip_cost d (suc n) g) (trip_cost d (depth d n g) g) ≡ b
          → Shallowest n g (depth d n g) → Shallowest (suc n) g (cond (a && b) (suc n) (depth d n g))
      go true true e f c = deeper n g (depth d n g) c (leb-true _ _ e) (ltb-true _ _ f)
      go true false e f c = stays n g (depth d n g) c (λ r. ltb-false _ _ f)
      go false b e f c = stays n g (depth d n g) c (λ r. absurd (omega (arith, leb-false (d.shut * suc n + d.wake * suc n) g e)))

  -- Level by level: the next one is chosen where it has room and costs less than the best before it, and else that one stays.
  pub depth_next : (n g : ℕ) → Room (suc n) g → trip_cost d (suc n) g < trip_cost d (depth d n g) g → depth d (suc n) g ≡ suc n
  depth_next n g h l = rw (le-leb _ _ h, lt-ltb _ _ l)

  pub depth_short : (n g : ℕ) → g < d.shut * suc n + d.wake * suc n → depth d (suc n) g ≡ depth d n g
  depth_short n g h = rw (lt-leb _ _ h)

  pub depth_dear : (n g : ℕ) → trip_cost d (depth d n g) g ≤ trip_cost d (suc n) g → depth d (suc n) g ≡ depth d n g
  depth_dear n g h = rw (le-ltb _ _ h) (go (leb (d.shut * suc n + d.wake * suc n) g))
    where
      go : (a : Bool) → cond (a && false) (suc n) (depth d n g) ≡ depth d n g
      go true = refl
      go false = refl

  -- Trips: length, energy, and ticks that move.
  pub length_trip : (m g : ℕ) → Room m g → length (trip d m g) ≡ g
  unfolding trip
  length_trip m g h = simp (length-append, length-replicate) (omega arith)

  pub trip_energy : (m g : ℕ) → energy d (trip d m g) ≡ trip_cost d m g
  unfolding trip
  trip_energy m g = simp (total_append, total_replicate) (omega arith)

  pub trip_moved : (m g : ℕ) → moved (trip d m g) ≡ d.shut * m + d.wake * m
  unfolding trip
  trip_moved m g = simp (total_append, total_replicate) (omega arith)

  -- Gaps.
  pub length_gap : (g : ℕ) → length (gap_row d g) ≡ g
  length_gap g = length_trip (depth d d.levels g) g (chosen d.levels g).room

  pub gap_none : gap_row d 0 ≡ []
  gap_none = nothing (gap_row d 0) (length_gap 0)

  pub gap_energy : (g : ℕ) → gap_cost d g ≡ trip_cost d (depth d d.levels g) g
  unfolding gap_cost
  gap_energy g = trip_energy (depth d d.levels g) g

  -- A gap costs at most the working power a tick: working through has always room.
  pub gap_most : (g : ℕ) → gap_cost d g ≤ d.pw * g
  gap_most g =
      let none : trip_cost d 0 g ≡ d.pw * g = simp (mul-zero, sub-zero, zero-add) in
      omega (arith, gap_energy g, none, (chosen d.levels g).least 0 (omega arith) (omega arith))

  module _ (ok : Sound d) where
    fall_far : (i j : ℕ) → i + suc j ≤ d.levels → power_at d (i + suc j) < power_at d i
    fall_far i zero h = rw add-one (ok.falls i (omega arith))
    fall_far i (suc j) h =
        let a = fall_far i j (omega arith) in
        let b = ok.falls (i + suc j) (omega arith) in
        rw add-suc (omega arith)

    -- The powers fall level by level.
    pub power_falls : (i j : ℕ) → i < j → j ≤ d.levels → power_at d j < power_at d i
    power_falls i j l h =
        let e : i + suc (j - suc i) ≡ j = omega arith in
        rw e at (fall_far i (j - suc i) (omega arith))

    pub deep_low : (m : ℕ) → m ≤ d.levels → deep d ≤ power_at d m
    deep_low m h = ⊎_elim (λ e. omega (arith, ap (power_at d) e)) (λ l. omega (arith, power_falls m d.levels l (omega arith))) (eq-or-lt_of_le h)

    -- And at least the deepest level's.
    pub gap_low : (g : ℕ) → deep d * g ≤ gap_cost d g
    gap_low g =
        let m = depth d d.levels g in
        let c = chosen d.levels g in
        let low = deep_low 1 ok.some_level in
        let whole : d.shut * m + d.wake * m + (g - (d.shut * m + d.wake * m)) ≡ g = omega (arith, c.room) in
        let down : deep d * (d.shut * m) ≤ d.pd * (d.shut * m) = mul-le-mul_right (d.shut * m) (omega (arith, ok.shuts_dearer)) in
        let up : deep d * (d.wake * m) ≤ d.pu * (d.wake * m) = mul-le-mul_right (d.wake * m) (omega (arith, ok.wakes_dearer)) in
        let rest = mul-le-mul_right (g - (d.shut * m + d.wake * m)) (deep_low m c.within) in
        subst (λ (n : ℕ). deep d * n ≤ gap_cost d g) whole (omega (arith, gap_energy g))
