-- One record: reading its bytes gives the record, and a record that was read has the bytes that it was read from.
use mathlib.Core.Path.{◌≡◌, refl, sym, ap, subst, ◌∙◌}
use mathlib.Core.List.{List, ◌∷◌}
use Prim.Native.Nat.{ℕ, zero, suc, ◌+◌, ◌*◌, ◌/◌, ◌%◌, ◌<◌, ◌≤◌, min}
use native.Mathlib.Omega.{arith}
use native.Mathlib.Nat.{div-add-mod', add-zero, add_assoc}
use lib.ListN.{length}
use Rattle.base.specs.Bytes.{byte_at, pair_at, pair_bytes}
use Rattle.base.specs.Lists.{up_to}
use Rattle.tables.specs.declared.Kind.{Kind}
use Rattle.tables.specs.declared.Kind.TheVariants.{First, Second, Third}
use Rattle.tables.specs.declared.DeviceRecord.{DeviceRecord}
use Rattle.tables.specs.declared.TaskRecord.{TaskRecord}
use Rattle.tables.specs.declared.JobRecord.{JobRecord}
use Rattle.tables.specs.Records.{first_at, first_bytes, second_at, second_bytes, power_of, third_at, third_bytes, device_at, device_size, device_bytes, told, task_at, task_bytes, job_at, job_bytes}
use Rattle.tables.specs.Layout.{Bytes}
use Rattle.tables.proofs.Levels.{listed_min, powers, powers_min, powers_told, length_third}
use Rattle.tables.proofs.Parts.{part}

-- ---- a number of two bytes

pub read_pair : (s : List ℕ) (at n : ℕ) → byte_at s at ≡ n / 256 → byte_at s (at + 1) ≡ n % 256 → pair_at s at ≡ n
read_pair s at n h l = rw (h, l) (div-add-mod' n 256)

high : (a b : ℕ) → b < 256 → (a * 256 + b) / 256 ≡ a
high a b h = omega arith

low : (a b : ℕ) → b < 256 → (a * 256 + b) % 256 ≡ b
low a b h = omega arith

-- ---- what is laid out is read

-- A list stands at a place.
abbrev pub Stands : List ℕ → ℕ → List ℕ → Type 0
Stands s at l = (i : ℕ) → i < length l → byte_at s (at + i) ≡ byte_at l i

module _ (s : List ℕ) (at : ℕ) where
  -- A number of two bytes that stands k places on.
  pair_stands : (k n : ℕ) → byte_at s (at + k) ≡ n / 256 → byte_at s (at + (k + 1)) ≡ n % 256 → pair_at s (at + k) ≡ n
  pair_stands k n h l = read_pair s (at + k) n h (rw (add_assoc at k 1) l)

  read_first : (d : DeviceRecord) → Stands s at (first_bytes d) → first_at s at ≡ told First d
  read_first d h =
      let t : byte_at s at ≡ d.wake = rw add-zero at (h 0 (omega arith)) in
      let a = pair_stands 1 d.pw (h 1 (omega arith)) (h 2 (omega arith)) in
      let b = pair_stands 3 d.ps (h 3 (omega arith)) (h 4 (omega arith)) in
      let c = pair_stands 5 d.pwake (h 5 (omega arith)) (h 6 (omega arith)) in
      rw (t, a, b, c)

  read_second : (d : DeviceRecord) → Stands s at (second_bytes d) → second_at s at ≡ told Second d
  read_second d h =
      let t : byte_at s at ≡ d.wake = rw add-zero at (h 0 (omega arith)) in
      let u : byte_at s (at + 1) ≡ d.shut = h 1 (omega arith) in
      let a = pair_stands 2 d.pw (h 2 (omega arith)) (h 3 (omega arith)) in
      let b = pair_stands 4 d.ps (h 4 (omega arith)) (h 5 (omega arith)) in
      let c = pair_stands 6 d.pwake (h 6 (omega arith)) (h 7 (omega arith)) in
      let e = pair_stands 8 d.pshut (h 8 (omega arith)) (h 9 (omega arith)) in
      rw (t, u, a, b, c, e)

  -- The powers of m levels, after six bytes.
  abbrev Powers : (m a b c e : ℕ) → Type 0
  Powers m a b c e =
      (power_of m 0 (pair_at s (at + 6)) ≡ power_of m 0 a) × (power_of m 1 (pair_at s (at + 8)) ≡ power_of m 1 b)
      × (power_of m 2 (pair_at s (at + 10)) ≡ power_of m 2 c) × (power_of m 3 (pair_at s (at + 12)) ≡ power_of m 3 e)

  read_powers : (m x₀ x₁ x₂ x₃ x₄ x₅ a b c e : ℕ) → m ≤ 4 → Stands s at (x₀ ∷ x₁ ∷ x₂ ∷ x₃ ∷ x₄ ∷ x₅ ∷ powers m a b c e) → Powers m a b c e
  read_powers zero x₀ x₁ x₂ x₃ x₄ x₅ a b c e l h = (refl, refl, refl, refl)
  read_powers (suc zero) x₀ x₁ x₂ x₃ x₄ x₅ a b c e l h = (pair_stands 6 a (h 6 (omega arith)) (h 7 (omega arith)), refl, refl, refl)
  read_powers (suc (suc zero)) x₀ x₁ x₂ x₃ x₄ x₅ a b c e l h =
      (pair_stands 6 a (h 6 (omega arith)) (h 7 (omega arith)), pair_stands 8 b (h 8 (omega arith)) (h 9 (omega arith)), refl, refl)
  read_powers (suc (suc (suc zero))) x₀ x₁ x₂ x₃ x₄ x₅ a b c e l h = (
    pair_stands 6 a (h 6 (omega arith)) (h 7 (omega arith)),
    pair_stands 8 b (h 8 (omega arith)) (h 9 (omega arith)),
    pair_stands 10 c (h 10 (omega arith)) (h 11 (omega arith)),
    refl,
  )
  read_powers (suc (suc (suc (suc zero)))) x₀ x₁ x₂ x₃ x₄ x₅ a b c e l h = (
    pair_stands 6 a (h 6 (omega arith)) (h 7 (omega arith)),
    pair_stands 8 b (h 8 (omega arith)) (h 9 (omega arith)),
    pair_stands 10 c (h 10 (omega arith)) (h 11 (omega arith)),
    pair_stands 12 e (h 12 (omega arith)) (h 13 (omega arith)),
  )
  read_powers (suc (suc (suc (suc (suc m))))) x₀ x₁ x₂ x₃ x₄ x₅ a b c e l h = absurd (omega arith)

  levels_at : (d : DeviceRecord) → Stands s at (third_bytes d) → byte_at s (at + 5) ≡ d.levels
  levels_at d h = h 5 (omega (arith, length_third d))

  read_third : (d : DeviceRecord) → Stands s at (third_bytes d) → third_at s at ≡ told Third d
  read_third d h =
      let n = d.levels in
      let t : byte_at s at ≡ d.wake = rw add-zero at (h 0 (omega (arith, length_third d))) in
      let a = pair_stands 1 d.pw (h 1 (omega (arith, length_third d))) (h 2 (omega (arith, length_third d))) in
      let b = pair_stands 3 d.pwake (h 3 (omega (arith, length_third d))) (h 4 (omega (arith, length_third d))) in
      let l : byte_at s (at + 5) ≡ n = levels_at d h in
      let few : List ℕ → Type 0 = λ l. Stands s at (d.wake ∷ d.pw / 256 ∷ d.pw % 256 ∷ d.pwake / 256 ∷ d.pwake % 256 ∷ n ∷ l) in
      let p = read_powers (min n 4) d.wake (d.pw / 256) (d.pw % 256) (d.pwake / 256) (d.pwake % 256) n d.ps d.ps2 d.ps3 d.ps4 (omega arith)
      (subst few (powers_min n d.ps d.ps2 d.ps3 d.ps4) h) in
      cc (t, a, b, l, p.0, p.1, p.2, p.3, listed_min n 0 (omega arith), listed_min n 1 (omega arith), listed_min n 2 (omega arith), listed_min n 3 (omega arith))

  -- By kind: the record, and its size.
  pub read_device : (k : Kind) (d : DeviceRecord) → Stands s at (device_bytes k d) → device_at k s at ≡ told k d
  read_device First d h = read_first d h
  read_device Second d h = read_second d h
  read_device Third d h = read_third d h

  pub read_size : (k : Kind) (d : DeviceRecord) → Stands s at (device_bytes k d) → device_size k s at ≡ length (device_bytes k d)
  read_size First d h = refl
  read_size Second d h = refl
  read_size Third d h = ap (λ (n : ℕ). 6 + 2 * min n 4) (levels_at d h) ∙ sym (length_third d)

  pub read_task : (k : TaskRecord) → Stands s at (task_bytes k) → task_at s at ≡ k
  read_task k h =
      let a = read_pair s at k.period (rw add-zero at (h 0 (omega arith))) (h 1 (omega arith)) in
      let b = pair_stands 2 k.run (h 2 (omega arith)) (h 3 (omega arith)) in
      let c : byte_at s (at + 4) ≡ k.set = h 4 (omega arith) in
      rw (a, b, c)

  pub read_job : (j : JobRecord) → Stands s at (job_bytes j) → job_at s at ≡ j
  read_job j h =
      let a = read_pair s at j.release (rw add-zero at (h 0 (omega arith))) (h 1 (omega arith)) in
      let b = pair_stands 2 j.deadline (h 2 (omega arith)) (h 3 (omega arith)) in
      let c = pair_stands 4 j.run (h 4 (omega arith)) (h 5 (omega arith)) in
      let d : byte_at s (at + 6) ≡ j.set = h 6 (omega arith) in
      rw (a, b, c, d)

-- ---- what is read is laid out the same

module _ (s : List ℕ) (at : ℕ) (b : Bytes s) where
  pair_high : (k : ℕ) → pair_at s (at + k) / 256 ≡ byte_at s (at + k)
  pair_high k = high _ _ (b (at + k + 1))

  pair_low : (k : ℕ) → pair_at s (at + k) % 256 ≡ byte_at s (at + (k + 1))
  pair_low k = low _ _ (b (at + k + 1)) ∙ rw (add_assoc at k 1)

  pub pair_part : pair_bytes (pair_at s at) ≡ part s at 2
  unfolding up_to
  pair_part = rw (add-zero at, high _ _ (b (at + 1)), low _ _ (b (at + 1)))

  -- The first six bytes of a record of the third kind, and the powers of m levels.
  powers_part : (m : ℕ) → m ≤ 4
      → byte_at s at ∷ pair_at s (at + 1) / 256 ∷ pair_at s (at + 1) % 256 ∷ pair_at s (at + 3) / 256 ∷ pair_at s (at + 3) % 256 ∷ byte_at s (at + 5)
      ∷ powers m (pair_at s (at + 6)) (pair_at s (at + 8)) (pair_at s (at + 10)) (pair_at s (at + 12)) ≡ part s at (6 + 2 * m)
  unfolding up_to
  powers_part zero h = rw (add-zero at, pair_high 1, pair_low 1, pair_high 3, pair_low 3)
  powers_part (suc zero) h = rw (add-zero at, pair_high 1, pair_low 1, pair_high 3, pair_low 3, pair_high 6, pair_low 6)
  powers_part (suc (suc zero)) h = rw (add-zero at, pair_high 1, pair_low 1, pair_high 3, pair_low 3, pair_high 6, pair_low 6, pair_high 8, pair_low 8)
  powers_part (suc (suc (suc zero))) h =
      rw (add-zero at, pair_high 1, pair_low 1, pair_high 3, pair_low 3, pair_high 6, pair_low 6, pair_high 8, pair_low 8, pair_high 10, pair_low 10)
  powers_part (suc (suc (suc (suc zero)))) h =
      rw (add-zero at, pair_high 1, pair_low 1, pair_high 3, pair_low 3, pair_high 6, pair_low 6, pair_high 8, pair_low 8, pair_high 10, pair_low 10, pair_high 12, pair_low 12)
  powers_part (suc (suc (suc (suc (suc m))))) h = absurd (omega arith)

  third_part : third_bytes (third_at s at) ≡ part s at (6 + 2 * min (byte_at s (at + 5)) 4)
  third_part =
      let n = byte_at s (at + 5) in
      let told = powers_told n (pair_at s (at + 6)) (pair_at s (at + 8)) (pair_at s (at + 10)) (pair_at s (at + 12)) in
      let few = powers_min n (pair_at s (at + 6)) (pair_at s (at + 8)) (pair_at s (at + 10)) (pair_at s (at + 12)) in
      ap (λ (l : List ℕ). byte_at s at ∷ pair_at s (at + 1) / 256 ∷ pair_at s (at + 1) % 256 ∷ pair_at s (at + 3) / 256 ∷ pair_at s (at + 3) % 256 ∷ n ∷ l) (told ∙ few)
      ∙ powers_part (min n 4) (omega arith)

  pub device_part : (k : Kind) → device_bytes k (device_at k s at) ≡ part s at (device_size k s at)
  unfolding up_to
  device_part First = rw (add-zero at, pair_high 1, pair_low 1, pair_high 3, pair_low 3, pair_high 5, pair_low 5)
  device_part Second = rw (add-zero at, pair_high 2, pair_low 2, pair_high 4, pair_low 4, pair_high 6, pair_low 6, pair_high 8, pair_low 8)
  device_part Third = third_part

  pub task_part : task_bytes (task_at s at) ≡ part s at 5
  unfolding up_to
  task_part = rw (add-zero at, high _ _ (b (at + 1)), low _ _ (b (at + 1)), pair_high 2, pair_low 2)

  pub job_part : job_bytes (job_at s at) ≡ part s at 7
  unfolding up_to
  job_part = rw (add-zero at, high _ _ (b (at + 1)), low _ _ (b (at + 1)), pair_high 2, pair_low 2, pair_high 4, pair_low 4)
