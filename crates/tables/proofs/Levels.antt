-- The powers that a record of the third kind lists: beyond the fourth level none counts, and so many bytes they have.
use mathlib.Core.Path.{◌≡◌, refl, sym, ap, ◌∙◌}
use mathlib.Core.Bool.{Bool, true, false, cond}
use mathlib.Core.List.{List, [], ◌++◌}
use Prim.Native.Nat.{ℕ, zero, suc, ◌+◌, ◌*◌, ◌<◌, ◌≤◌, min}
use native.Mathlib.Omega.{arith}
use native.Mathlib.Decide.{dec_lt}
use lib.Dec.{ltb}
use lib.ListN.{length}
use borrow.Author.Tests.{lt-ltb, le-ltb}
use Rattle.tables.specs.declared.DeviceRecord.{DeviceRecord}
use Rattle.base.specs.Bytes.{pair_bytes}
use Rattle.tables.specs.Records.{power_bytes, third_bytes}

pub listed_min : (n i : ℕ) → i < 4 → ltb i n ≡ ltb i (min n 4)
listed_min n i h =
    elim (dec_lt i n) [
      | yes l ↦ lt-ltb i n l ∙ sym (lt-ltb i (min n 4) (omega arith))
      | no l ↦ le-ltb i n (omega arith) ∙ sym (le-ltb i (min n 4) (omega arith))
    ]

-- The bytes of four powers, of which n levels have the first ones.
abbrev pub powers : (n a b c e : ℕ) → List ℕ
powers n a b c e = power_bytes n 0 a ++ (power_bytes n 1 b ++ (power_bytes n 2 c ++ power_bytes n 3 e))

pub powers_min : (n a b c e : ℕ) → powers n a b c e ≡ powers (min n 4) a b c e
powers_min n a b c e = cc (listed_min n 0 (omega arith), listed_min n 1 (omega arith), listed_min n 2 (omega arith), listed_min n 3 (omega arith))

length_few : (m a b c e : ℕ) → m ≤ 4 → length (powers m a b c e) ≡ 2 * m
length_few zero a b c e h = refl
length_few (suc zero) a b c e h = refl
length_few (suc (suc zero)) a b c e h = refl
length_few (suc (suc (suc zero))) a b c e h = refl
length_few (suc (suc (suc (suc zero)))) a b c e h = refl
length_few (suc (suc (suc (suc (suc m))))) a b c e h = absurd (omega arith)

pub length_powers : (n a b c e : ℕ) → length (powers n a b c e) ≡ 2 * min n 4
length_powers n a b c e = ap length (powers_min n a b c e) ∙ length_few (min n 4) a b c e (omega arith)

pub length_third : (d : DeviceRecord) → length (third_bytes d) ≡ 6 + 2 * min d.levels 4
length_third d = omega (arith, length_powers d.levels d.ps d.ps2 d.ps3 d.ps4)

-- A power that is left out is left out once.
left_out : (t : Bool) (p : ℕ) → cond t (pair_bytes (cond t p 0)) [] ≡ cond t (pair_bytes p) []
left_out true p = refl
left_out false p = refl

pub powers_told : (n a b c e : ℕ) → powers n (cond (ltb 0 n) a 0) (cond (ltb 1 n) b 0) (cond (ltb 2 n) c 0) (cond (ltb 3 n) e 0) ≡ powers n a b c e
powers_told n a b c e = cc (left_out (ltb 0 n) a, left_out (ltb 1 n) b, left_out (ltb 2 n) c, left_out (ltb 3 n) e)
