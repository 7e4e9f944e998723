-- Rule 38 in its own words: for a device with one sleep level, and for one of rule 3. And rule 88: a device that a round never uses.
use mathlib.Core.Path.{◌≡◌, refl, sym, ap, ◌∙◌}
use mathlib.Core.Bool.{Bool, true, false, cond, ◌&&◌, true≢false}
use mathlib.Core.List.{List, [], ◌∷◌, ◌++◌, append-nil}
use Prim.Native.Nat.{ℕ, zero, suc, ◌+◌, ◌-◌, ◌*◌, ◌≤◌, ◌<◌}
use native.Mathlib.Nat.{mul-one, mul-zero, sub-zero, zero-add, mul-le-mul_right}
use native.Mathlib.Omega.{arith}
use lib.Dec.{leb, ltb}
use lib.ListN.{replicate}
use borrow.Author.Tests.{leb-true, ltb-true, le-leb, lt-ltb}
use Rattle.base.proofs.Additions.{total_replicate}
use Rattle.device.specs.declared.Device.{Device}
use Rattle.device.specs.Row.{power_at, deep, Sound, Letter, at, D, U, W, power, energy, LeastRow, trip, depth, gap_row}
use Rattle.device.proofs.Chosen.{Shallowest, chosen}
use Rattle.device.proofs.Least.{least_is_row, row_gap, round_never}

-- A device with one sleep level, and times and powers of its own for waking and for shutting down.
abbrev pub single : (wake shut Pw Ps Pwake Pshut : ℕ) → Device
single wake shut Pw Ps Pwake Pshut = record { shut = shut; wake = wake; pw = Pw; pd = Pshut; pu = Pwake; levels = 1; powers = Ps ∷ 0 ∷ 0 ∷ 0 ∷ [] }

-- The device of rule 3: both moves have the same time and power.
abbrev pub first : (T Pw Ps P0 : ℕ) → Device
first T Pw Ps P0 = single T T Pw Ps P0 P0

pub single_sound : (wake shut Pw Ps Pwake Pshut : ℕ) → 1 ≤ wake → 1 ≤ shut → Ps < Pw → Ps < Pwake → Ps < Pshut → Sound (single wake shut Pw Ps Pwake Pshut)
single_sound wake shut Pw Ps Pwake Pshut hw hs w u d = record { some_level = omega arith; few_levels = omega arith; shuts = hs; wakes = hw; falls = falls; shuts_dearer = d; wakes_dearer = u }
  where
    falls : (k : ℕ) → k < 1 → power_at (single wake shut Pw Ps Pwake Pshut) (suc k) < power_at (single wake shut Pw Ps Pwake Pshut) k
    falls zero l = w
    falls (suc k) l = absurd (omega arith)

pub first_sound : (T Pw Ps P0 : ℕ) → 1 ≤ T → Ps < P0 → Ps < Pw → Sound (first T Pw Ps P0)
first_sound T Pw Ps P0 t h w = single_sound T T Pw Ps P0 P0 t t w h h

-- A gap of g ticks that is slept: so many of D, then of the sleep letter, then of U.
abbrev pub slept : ℕ → ℕ → ℕ → List Letter
slept shut wake g = replicate shut D ++ (replicate (g - (shut + wake)) (at 1) ++ replicate wake U)

-- The row sleeps exactly when P holds, and else works through.
pub record Exactly (P : Type 0) (row sleep work : List Letter) : Type 0 where
  pub sleeps : P → row ≡ sleep
  pub works : (P → ⊥) → row ≡ work

-- With one sleep level a gap is slept exactly when both moves have room and sleeping costs less than working through.
module _ (wake shut Pw Ps Pwake Pshut g : ℕ) where
  abbrev test : Bool
  test = leb (shut + wake) g && ltb (Pshut * shut + Pwake * wake + Ps * (g - (shut + wake))) (Pw * g)

  depth_test : depth (single wake shut Pw Ps Pwake Pshut) 1 g ≡ cond test 1 0
  depth_test = simp (mul-one, mul-zero, sub-zero, zero-add)

  gap_test : (b : Bool) → trip (single wake shut Pw Ps Pwake Pshut) (cond b 1 0) g ≡ cond b (slept shut wake g) (replicate g W)
  unfolding trip
  gap_test true = simp mul-one
  gap_test false = simp (mul-zero, sub-zero, append-nil)

  gap_is : gap_row (single wake shut Pw Ps Pwake Pshut) g ≡ cond test (slept shut wake g) (replicate g W)
  gap_is = rw depth_test (gap_test test)

  -- The test as two facts.
  pub single_rule : Exactly ((shut + wake ≤ g) × (Pshut * shut + Pwake * wake + Ps * (g - (shut + wake)) < Pw * g))
      (gap_row (single wake shut Pw Ps Pwake Pshut) g) (slept shut wake g) (replicate g W)
  single_rule = record {
    sleeps = λ p. gap_is ∙ rw (le-leb (shut + wake) g p.0, lt-ltb _ _ p.1);
    works = λ n. rw gap_is (go test refl n);
  }
    where
      facts : (a b : Bool) → (a && b) ≡ true → (a ≡ true) × (b ≡ true)
      facts true b e = (refl, e)
      facts false b e = absurd (true≢false (sym e))

      go : (b : Bool) → test ≡ b → ((shut + wake ≤ g) × (Pshut * shut + Pwake * wake + Ps * (g - (shut + wake)) < Pw * g) → ⊥)
          → cond b (slept shut wake g) (replicate g W) ≡ replicate g W
      go true e n = let f = facts (leb (shut + wake) g) _ e in absurd (n (leb-true _ _ f.0, ltb-true _ _ f.1))
      go false e n = refl

-- For a device of rule 3: exactly when g ≥ 2T and sleeping costs less.
pub first_rule : (T Pw Ps P0 g : ℕ) → Exactly ((2 * T ≤ g) × (P0 * (2 * T) + Ps * (g - 2 * T) < Pw * g)) (gap_row (first T Pw Ps P0) g) (slept T T g) (replicate g W)
first_rule T Pw Ps P0 g =
    let r = single_rule T T Pw Ps P0 P0 g in
    let two : T + T ≡ 2 * T = omega arith in
    let cost : P0 * T + P0 * T + Ps * (g - (T + T)) ≡ P0 * (2 * T) + Ps * (g - 2 * T) = rw two (omega arith) in
    record { sleeps = λ p. r.sleeps (omega (arith, p.0), omega (arith, p.1)); works = λ n. r.works (λ p. n (omega (arith, p.0), omega (arith, p.1))) }

-- Where moving costs less than work, sleeping always does: exactly when g ≥ 2T.
slept_less : (T Pw Ps P0 c : ℕ) → Ps < P0 → P0 < Pw → 1 ≤ T → P0 * (2 * T) + Ps * c < Pw * (2 * T + c)
slept_less T Pw Ps P0 c hs hw ht = omega (arith, mul-le-mul_right T hw, mul-le-mul_right c hs, mul-le-mul_right c hw)

pub old_rule : (T Pw Ps P0 g : ℕ) → 1 ≤ T → Ps < P0 → P0 < Pw → Exactly (2 * T ≤ g) (gap_row (first T Pw Ps P0) g) (slept T T g) (replicate g W)
old_rule T Pw Ps P0 g t h w =
    let r = first_rule T Pw Ps P0 g in
    let less : 2 * T ≤ g → P0 * (2 * T) + Ps * (g - 2 * T) < Pw * g
    = λ p. let c : 2 * T + (g - 2 * T) ≡ g = omega arith in rw c at (slept_less T Pw Ps P0 (g - 2 * T) h w t) in
    record { sleeps = λ p. r.sleeps (p, less p); works = λ n. r.works (λ p. n p.0) }

-- Whatever the levels: the gap's row is the trip to the cheapest of those that have room, the shallowest of equals.
pub level_rule : (d : Device) (g : ℕ) → (m : ℕ) × Shallowest d d.levels g m × (gap_row d g ≡ trip d m g)
level_rule d g = (depth d d.levels g, chosen d d.levels g, refl)

-- The row given for a gap and nothing else is the gap's row. (In longer rows `row_of` fills each gap so.)
pub gap_given : (d : Device) → Sound d → (g : ℕ) {r : List Letter} → LeastRow false d (replicate g false) r → r ≡ gap_row d g
gap_given d ok g l = least_is_row d ok false l ∙ row_gap d g

-- So the row given for a device of rule 3 sleeps through a gap exactly when rule 38 says so.
pub first_given : (T Pw Ps P0 g : ℕ) → 1 ≤ T → Ps < P0 → Ps < Pw → {r : List Letter} → LeastRow false (first T Pw Ps P0) (replicate g false) r
    → Exactly ((2 * T ≤ g) × (P0 * (2 * T) + Ps * (g - 2 * T) < Pw * g)) r (slept T T g) (replicate g W)
first_given T Pw Ps P0 g t h w l = rw (gap_given (first T Pw Ps P0) (first_sound T Pw Ps P0 t h w) g l) (first_rule T Pw Ps P0 g)

-- The row given for a device that a round never uses is all sleep, at the deepest level.
pub never_used : (d : Device) → Sound d → (H : ℕ) {r : List Letter} → LeastRow true d (replicate H false) r
    → (r ≡ replicate H (at d.levels)) × (energy d r ≡ deep d * H)
never_used d ok H l =
    let e = least_is_row d ok true l ∙ round_never d H in
    (e, ap (energy d) e ∙ total_replicate (power d) H (at d.levels))
