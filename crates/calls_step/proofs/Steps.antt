-- A device and its record as bytes: a device that nothing refuses is sound, and the bytes of a record come back.
use mathlib.Core.Path.{◌≡◌, refl}
use mathlib.Core.Bool.{Bool, true, false, cond, not}
use mathlib.Core.List.{List}
use Prim.Native.Nat.{ℕ, zero, suc, ◌+◌, ◌*◌, ◌/◌, ◌%◌, ◌≤◌, ◌<◌}
use native.Mathlib.Omega.{arith}
use native.Mathlib.Nat.{pos_of_ne-zero}
use lib.Dec.{eqb, ltb, leb}
use lib.ListN.{length}
use borrow.Author.Tests.{eqb-true, eqb-false, leb-false}
use Rattle.base.specs.Bytes.{byte_at, pair_at}
use Rattle.base.proofs.Numbered.{some_number}
use Rattle.device.specs.Row.{Sound, power_at}
use Rattle.steps.specs.declared.State.{State}
use Rattle.steps.specs.declared.State.TheVariants.{Working, Asleep, Down, Up}
use Rattle.steps.specs.declared.Stepped.{Stepped}
use Rattle.tables.specs.Layout.{Bytes}
use Rattle.calls_step.specs.StepCall.{device_in, record_in, record_bytes, powers_fault, fault_of, code_of}
use Rattle.calls_step.specs.declared.records.NoStep.{NoStep}
use Rattle.calls_step.specs.declared.records.NoStep.TheVariants.{Neither, Refused}

-- ---- what is not refused

-- A chain of refusals that gives 0 has passed its first test.
passed : (t : Bool) (n rest : ℕ) → (n ≡ 0 → ⊥) → cond t n rest ≡ 0 → (t ≡ false) × (rest ≡ 0)
passed true n rest h e = absurd (h e)
passed false n rest h e = (refl, e)

seven : (n m : ℕ) → not (eqb n m) ≡ false → n ≡ m
seven n m = go (eqb n m) refl
  where
    go : (b : Bool) → eqb n m ≡ b → not b ≡ false → n ≡ m
    go true e h = eqb-true n m e
    go false e h = absurd (let never : ◌≡◌ {A = ℕ} 0 1 = cc in omega arith)

pub record Fit (device bytes : List ℕ) : Type 0 where
  pub device_long : length device ≡ 7
  pub record_long : length bytes ≡ 6
  pub moves : 1 ≤ byte_at device 0
  pub dearer : pair_at device 3 < pair_at device 5
  pub cheaper : pair_at device 5 < pair_at device 1

pub fit : (device bytes : List ℕ) → fault_of device bytes ≡ 0 → Fit device bytes
unfolding fault_of powers_fault
fit device bytes e =
    let a = passed (not (eqb (length device) 7)) 255 _ (λ z. omega arith) e in
    let b = passed (not (eqb (length bytes) 6)) 255 _ (λ z. omega arith) a.1 in
    let c = passed (ltb 3 (byte_at bytes 0)) 255 _ (λ z. omega arith) b.1 in
    let d = passed (eqb (byte_at device 0) 0) 4 _ (λ z. omega arith) c.1 in
    let f = passed (leb (pair_at device 5) (pair_at device 3)) 25 _ (λ z. omega arith) d.1 in
    let g = passed (leb (pair_at device 1) (pair_at device 5)) 25 _ (λ z. omega arith) f.1 in
    record {
      device_long = seven (length device) 7 a.0;
      record_long = seven (length bytes) 6 b.0;
      moves = pos_of_ne-zero (eqb-false (byte_at device 0) 0 d.0);
      dearer = leb-false (pair_at device 5) (pair_at device 3) f.0;
      cheaper = leb-false (pair_at device 1) (pair_at device 5) g.0;
    }

pub fit_sound : (device bytes : List ℕ) → Fit device bytes → Sound (device_in device)
fit_sound device bytes f =
    record {
      some_level = omega arith;
      few_levels = omega arith;
      shuts = f.moves;
      wakes = f.moves;
      falls = falls;
      shuts_dearer = f.dearer;
      wakes_dearer = f.dearer;
    }
  where
    falls : (k : ℕ) → k < (device_in device).levels → power_at (device_in device) (suc k) < power_at (device_in device) k
    falls zero l = omega (arith, f.dearer, f.cheaper)
    falls (suc k) l = absurd (omega arith)

-- Each error has a number.
pub some_code : (e : NoStep) → 0 < code_of e
some_code Neither = omega arith
some_code (Refused r) = some_number r

-- ---- the bytes of a record

four : (e : ℕ) → (e / 65536 / 256 * 256 + e / 65536 % 256) * 65536 + (e % 65536 / 256 * 256 + e % 65536 % 256) ≡ e
four e = omega arith

-- A record that was written is read as it was: so the calls of a round go on from each other.
pub record_back : (x : Stepped) → record_in (record_bytes x) ≡ x
record_back x = go x.state
  where
    go : (st : State) → record_in (record_bytes (record { state = st; energy = x.energy })) ≡ record { state = st; energy = x.energy }
    go Working = rw (four x.energy)
    go Asleep = rw (four x.energy)
    go (Down n) = rw (four x.energy)
    go (Up n) = rw (four x.energy)

-- The energy in a record is a number of 32 bits, since its bytes are.
pub energy_fits : (bytes : List ℕ) → Bytes bytes → (record_in bytes).energy < 4294967296
energy_fits bytes b = omega (arith, b 2, b 3, b 4, b 5)
