-- What the code's numbers keep to: no tick costs more than 65,535, and the jobs in turn lie within the horizon.
use mathlib.Core.Path.{◌≡◌}
use mathlib.Core.Bool.{Bool, cond}
use Prim.Native.Nat.{ℕ, zero, suc, ◌+◌, ◌-◌, ◌*◌, ◌^◌, ◌≤◌, ◌<◌}
use native.Mathlib.Nat.{mul-le-mul}
use native.Mathlib.Numerals.{add-one}
use native.Mathlib.Omega.{arith}
use lib.Dec.{ltb}
use Rattle.base.specs.Loops.{each}
use Rattle.base.proofs.Cases.{test_cases}
use borrow.Author.Tests.{ltb-true}
use Rattle.device.specs.declared.Device.{Device}
use Rattle.device.specs.Row.{Sound, power_at, power, energy}
use Rattle.steps.specs.declared.State.{State}
use Rattle.steps.specs.declared.Stepped.{Stepped}
use Rattle.steps.specs.declared.Order.{Order}
use Rattle.steps.specs.declared.State.TheVariants.{Working, Asleep, Down, Up}
use Rattle.steps.specs.Stepping.{letter, passed, at_start, Events, row_by}
use Rattle.steps.specs.inside.Running.{alone, pass_over, ruled_to, job_over, begin, end, uses_at, after, next_begin, next_use, Spaced, fresh, turn, stepped}

-- A power × ticks fits 32 bits.
pub product : {p m : ℕ} → p ≤ 65535 → m ≤ 65535 → p * m < 2 ^ 32
product hp hm = omega (arith, mul-le-mul hp hm)

-- No letter of the device costs more than m.
abbrev pub Most : Device → ℕ → Type 0
Most d m = (d.pw ≤ m) × (power_at d 1 ≤ m) × (d.pd ≤ m) × (d.pu ≤ m)

letter_most : (d : Device) (m : ℕ) → Most d m → (st : State) → power d (letter st) ≤ m
letter_most d m h Working = h.0
letter_most d m h Asleep = h.1
letter_most d m h (Down zero) = h.1
letter_most d m h (Down (suc n)) = h.2
letter_most d m h (Up zero) = h.0
letter_most d m h (Up (suc n)) = h.3

-- Ticks with any events, and ticks without.
pub row_most : (d : Device) (m : ℕ) → Most d m → (ev : Events) (t n : ℕ) (st : State) → energy d (row_by ev t n st) ≤ m * n
unfolding row_by
row_most d m h ev t zero st = omega arith
row_most d m h ev t (suc n) st = omega (arith, letter_most d m h (ev t st), row_most d m h ev (suc t) n (passed (ev t st)))

pub alone_most : (d : Device) → Most d 65535 → (n : ℕ) (st : State) → energy d (alone n st) ≤ 65535 * n
unfolding alone
alone_most d h zero st = omega arith
alone_most d h (suc n) st = omega (arith, letter_most d 65535 h st, alone_most d h n (passed st))

-- Sleep costs less than work, and the other powers are fields of 16 bits.
pub sound_most : (d : Device) → Sound d → d.pw < 65536 → d.pd < 65536 → d.pu < 65536 → Most d 65535
sound_most d h w f r = (omega arith, omega (arith, h.falls 0 h.some_level), omega arith, omega arith)

-- ---- the jobs in turn

module _ (o : Order) (h : ℕ) (sp : Spaced o h) where
  after_by : (n i : ℕ) → i + n ≡ o.count → after o i ≤ h
  after_by zero i e = let q : i ≡ o.count = omega arith in rw q sp.within
  after_by (suc n) i e = omega (arith, sp.rising i (omega arith), sp.lasting i (omega arith), after_by n (suc i) (omega arith))

  pub after_within : (i : ℕ) → i ≤ o.count → after o i ≤ h
  after_within i l = after_by (o.count - i) i (omega arith)

  pub end_within : (i : ℕ) → i < o.count → end o i ≤ h
  end_within i l = after_within (suc i) l

  -- A job ends before the next begins, or before h.
  pub end_next : (i : ℕ) → i < o.count → end o i ≤ next_begin h o (i + 1)
  end_next i l =
      rw (add-one i)
      (test_cases (λ b. end o i ≤ cond b (begin o (suc i)) h) (ltb (suc i) o.count)
      (λ q. sp.rising (suc i) (ltb-true (suc i) o.count q)) (λ q. end_within i l))

  module _ (d : Device) (small : Most d 65535) where
    turn_most : (i : ℕ) (x : Stepped) → (turn d h o i x).energy ≤ x.energy + 65535 * (begin o i - after o i) + 65535 * (end o i - begin o i)
    unfolding turn
    turn_most i x =
        omega (
          arith,
          alone_most d small (begin o i - after o i) x.state,
          alone_most d small (end o i - begin o i) (ruled_to at_start d (uses_at o i) (next_use o (i + 1)) (next_begin h o (i + 1) - end o i) (pass_over d (begin o i - after o i) x)).state,
        )

    -- The energy of the jobs so far.
    pub jobs_most : (i : ℕ) → i ≤ o.count → (each (turn d h o) i fresh).energy ≤ 65535 * after o i
    unfolding each
    jobs_most zero l = omega arith
    jobs_most (suc i) l =
        omega (
          arith,
          jobs_most i (omega arith),
          turn_most i (each (turn d h o) i fresh),
          sp.rising i (omega arith),
          sp.lasting i (omega arith),
        )

    pub stepped_most : (stepped d h o).energy ≤ 65535 * h
    unfolding stepped
    stepped_most =
        omega (
          arith,
          jobs_most o.count (omega arith),
          after_within o.count (omega arith),
          alone_most d small (h - after o o.count) (each (turn d h o) o.count fresh).state,
        )

-- A turn of the loop, by what its parts gave.
pub turn_is : (d : Device) (h : ℕ) (o : Order) (i : ℕ) (x r : Stepped) (at nb : ℕ) (nu : Bool) → at ≡ after o i → nb ≡ next_begin h o (i + 1) → nu ≡ next_use o (i + 1)
    → r ≡ job_over d (begin o i - at) (end o i - begin o i) (uses_at o i) nu (nb - end o i) x → r ≡ turn d h o i x
unfolding turn
turn_is d h o i x r at nb nu p q u e = rw (← p, ← q, ← u) e
