-- Two files of at least p bytes, of which the first p are the same: what is read below p is the same of both.
use mathlib.Core.Path.{◌≡◌, refl, sym, ap, ◌∙◌}
use mathlib.Core.Bool.{false, cond}
use mathlib.Core.List.{List}
use Prim.Native.Nat.{ℕ, zero, suc, ◌+◌, ◌-◌, ◌<◌, ◌≤◌}
use native.Mathlib.Omega.{arith}
use lib.Dec.{ltb}
use lib.ListN.{length}
use borrow.Author.Tests.{ltb-true, le-ltb}
use Rattle.base.specs.Bytes.{byte_at, pair_at}
use Rattle.base.specs.Refusals.{first_that, first_of, after}
use Rattle.base.proofs.Cases.{test_cases}
use Rattle.base.proofs.Records.{after_from_lem}
use Rattle.tables.specs.declared.Kind.{Kind}
use Rattle.tables.specs.declared.Kind.TheVariants.{First, Second, Third}
use Rattle.tables.specs.Records.{power_of, device_at, device_size}
use Rattle.request.specs.declared.Section.{Section}
use Rattle.request.specs.declared.Section.TheVariants.{DeviceRecords, TaskRecords, JobRecords}
use Rattle.request.specs.Format.{device_table, size_of, head_of, record_table, record_fault, records_fault}
use Rattle.request.proofs.Checked.{record_there}

-- What is called for at first is a part of the record.
pub head_least : (s : List ℕ) (k : Section) (at : ℕ) → head_of k ≤ size_of s k at
head_least s (DeviceRecords First) at = omega arith
head_least s (DeviceRecords Second) at = omega arith
head_least s (DeviceRecords Third) at = omega arith
head_least s (TaskRecords n) at = omega arith
head_least s (JobRecords n h) at = omega arith

pub record Alike (p : ℕ) (s s' : List ℕ) : Type 0 where
  pub long : p ≤ length s
  pub long' : p ≤ length s'
  pub same : (i : ℕ) → i < p → byte_at s i ≡ byte_at s' i

module _ (p : ℕ) (s s' : List ℕ) (a : Alike p s s') where
  pub pair_same : (i : ℕ) → i + 1 < p → pair_at s i ≡ pair_at s' i
  pair_same i h = rw (a.same i (omega arith), a.same (i + 1) h)

  -- A power that n levels have stands before p.
  power_same : (n i at : ℕ) → (i < n → at + 1 < p) → power_of n i (pair_at s at) ≡ power_of n i (pair_at s' at)
  power_same n i at h = test_cases (λ b. cond b (pair_at s at) 0 ≡ cond b (pair_at s' at) 0) (ltb i n) (λ e. pair_same at (h (ltb-true i n e))) (λ e. refl)

  device_size_lem : (k : Kind) (at : ℕ) → at + device_size k s at ≤ p → device_size k s at ≡ device_size k s' at
  device_size_lem First at h = refl
  device_size_lem Second at h = refl
  device_size_lem Third at h = rw (a.same (at + 5) (omega arith))

  device_same : (k : Kind) (at : ℕ) → at + device_size k s at ≤ p → device_at k s at ≡ device_at k s' at
  device_same First at h = cc (a.same at (omega arith), pair_same (at + 1) (omega arith), pair_same (at + 3) (omega arith), pair_same (at + 5) (omega arith))
  device_same Second at h =
      cc (a.same at (omega arith), a.same (at + 1) (omega arith), pair_same (at + 2) (omega arith), pair_same (at + 4) (omega arith), pair_same (at + 6) (omega arith), pair_same (at + 8) (omega arith))
  device_same Third at h =
      let n = byte_at s (at + 5) in
      cc (
        a.same at (omega arith),
        pair_same (at + 1) (omega arith),
        pair_same (at + 3) (omega arith),
        a.same (at + 5) (omega arith),
        power_same n 0 (at + 6) (λ l. omega arith),
        power_same n 1 (at + 8) (λ l. omega arith),
        power_same n 2 (at + 10) (λ l. omega arith),
        power_same n 3 (at + 12) (λ l. omega arith),
      )

  pub size_same : (k : Section) (at : ℕ) → at + size_of s k at ≤ p → size_of s k at ≡ size_of s' k at
  size_same (DeviceRecords k) at h = device_size_lem k at h
  size_same (TaskRecords n) at h = refl
  size_same (JobRecords n h) at l = refl

  table_same : (k : Section) (at : ℕ) → at + size_of s k at ≤ p → record_table s k at ≡ record_table s' k at
  unfolding record_table
  table_same (DeviceRecords k) at h =
      let b = a.long in
      let b' = a.long' in
      let e = device_size_lem k at h in
      rw (le-ltb (length s - at) (device_size k s at) (omega arith), le-ltb (length s' - at) (device_size k s' at) (omega arith)) (ap (device_table false) (device_same k at h))
  table_same (TaskRecords n) at h = cc (pair_same at (omega arith), pair_same (at + 2) (omega arith), a.same (at + 4) (omega arith))
  table_same (JobRecords n h) at l = cc (pair_same at (omega arith), pair_same (at + 2) (omega arith), pair_same (at + 4) (omega arith), a.same (at + 6) (omega arith))

  pub record_same : (k : Section) (at : ℕ) → at + size_of s k at ≤ p → record_fault s k at ≡ record_fault s' k at
  record_same k at h =
      let b = a.long in
      let b' = a.long' in
      let e = size_same k at h in
      let m = head_least s k at in
      record_there s' k at _ (omega arith) (sym (record_there s k at _ (omega arith) refl) ∙ ap first_that (table_same k at h))

  -- The records of a section that ends by p, and the place of its end.
  pub records_same : (k : Section) (n at : ℕ) → after (size_of s k) n at ≤ p → records_fault s k n at ≡ records_fault s' k n at
  unfolding first_of
  records_same k zero at h = refl
  records_same k (suc n) at h =
      let one : at + size_of s k at ≤ p = omega (arith, after_from_lem (size_of s k) n (at + size_of s k at)) in
      rw (record_same k at one, records_same k n (at + size_of s k at) h, size_same k at one)

  pub place_same : (k : Section) (n at : ℕ) → after (size_of s k) n at ≤ p → after (size_of s k) n at ≡ after (size_of s' k) n at
  place_same k zero at h = refl
  place_same k (suc n) at h =
      let one : at + size_of s k at ≤ p = omega (arith, after_from_lem (size_of s k) n (at + size_of s k at)) in
      place_same k n (at + size_of s k at) h ∙ rw (size_same k at one)
