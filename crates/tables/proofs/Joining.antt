-- Laws of lists joined one after the other, and of bytes that are read from such a list.
use mathlib.Core.Path.{◌≡◌, refl}
use mathlib.Core.List.{List, ◌++◌}
use Prim.Native.Nat.{ℕ, zero, suc, ◌+◌, ◌*◌, ◌<◌, ◌≤◌, min}
use native.Mathlib.Omega.{arith}
use native.Mathlib.Decide.{dec_lt}
use native.Mathlib.Nat.{suc-mul, le_refl}
use native.Mathlib.Numerals.{add-one}
use lib.ListN.{length, length-append}
use Rattle.tables.specs.declared.Kind.{Kind}
use Rattle.tables.specs.declared.Kind.TheVariants.{First, Second, Third}
use Rattle.tables.specs.declared.DeviceRecord.{DeviceRecord}
use Rattle.tables.specs.declared.Tables.{Tables}
use Rattle.tables.specs.declared.TableName.{TableName}
use Rattle.tables.specs.declared.TableName.TheVariants.{Devices, Tasks, Jobs}
use Rattle.tables.specs.Records.{device_bytes}
use Rattle.tables.specs.Layout.{marker, device_in, joined, count_in, record_in, section_of, layout_of, bytes_of}
use Rattle.tables.specs.inside.Held.{limited}
use Rattle.tables.proofs.Levels.{length_third}

pub joined_more : (g : ℕ → List ℕ) (n : ℕ) → joined g (n + 1) ≡ joined g n ++ g n
unfolding joined
joined_more g n = rw (add-one n)

pub length_joined : (g : ℕ → List ℕ) (c n : ℕ) → ((k : ℕ) → k < n → length (g k) ≡ c) → length (joined g n) ≡ n * c
unfolding joined
length_joined g c zero h = omega arith
length_joined g c (suc n) h = rw length-append (omega (arith, length_joined g c n (λ k l. h k (omega arith)), h n (omega arith), suc-mul n c))

-- Of unequal lengths: no more than so many each, and the more lists the longer.
pub joined_most : (g : ℕ → List ℕ) (c n : ℕ) → ((k : ℕ) → length (g k) ≤ c) → length (joined g n) ≤ n * c
unfolding joined
joined_most g c zero h = omega arith
joined_most g c (suc n) h = rw length-append (omega (arith, joined_most g c n h, h n, suc-mul n c))

pub joined_le : (g : ℕ → List ℕ) (m n : ℕ) → m ≤ n → length (joined g m) ≤ length (joined g n)
unfolding joined
joined_le g m zero h = let e : m ≡ 0 = omega arith in rw e (le_refl (length (joined g 0)))
joined_le g m (suc n) h =
    elim (dec_lt n m) [
      | yes l ↦ let e : m ≡ suc n = omega arith in rw e (le_refl (length (joined g (suc n))))
      | no l ↦ rw length-append (omega (arith, joined_le g m n (omega arith)))
    ]

-- ---- the tables' records

length_device : (k : Kind) (d : DeviceRecord) → length (device_bytes k d) ≤ 14
length_device First d = omega arith
length_device Second d = omega arith
length_device Third d = omega (arith, length_third d)

pub length_marker : (k : Kind) → length (marker k) ≤ 2
length_marker First = omega arith
length_marker Second = omega arith
length_marker Third = omega arith

module _ (T : Tables) where
  pub length_devices : (n : ℕ) → length (joined (record_in T Devices) n) ≤ n * 14
  length_devices n = joined_most (record_in T Devices) 14 n (λ k. length_device T.kind (device_in T k))

  pub length_tasks : (n : ℕ) → length (joined (record_in T Tasks) n) ≡ n * 5
  length_tasks n = length_joined (record_in T Tasks) 5 n (λ k l. refl)

  pub length_jobs : (n : ℕ) → length (joined (record_in T Jobs) n) ≡ n * 7
  length_jobs n = length_joined (record_in T Jobs) 7 n (λ k l. refl)

  pub length_section : (p : TableName) → length (section_of T p) ≡ 1 + length (joined (record_in T p) (count_in T p))
  unfolding section_of
  length_section p = omega arith

  pub length_layout : length (layout_of T) ≡ 2 + length (section_of T Devices) + length (section_of T Tasks) + length (section_of T Jobs)
  unfolding layout_of
  length_layout = omega (arith, length-append (section_of T Devices) (section_of T Tasks ++ section_of T Jobs), length-append (section_of T Tasks) (section_of T Jobs))

-- Tables whose counts are cut have the same records, and fewer than 18 of each.
pub record_limited : (T : Tables) (p : TableName) → record_in (limited T) p ≡ record_in T p
unfolding limited
record_limited T Devices = refl
record_limited T Tasks = refl
record_limited T Jobs = refl

pub count_limited : (T : Tables) (p : TableName) → count_in (limited T) p ≤ 17
unfolding limited
count_limited T Devices = omega arith
count_limited T Tasks = omega arith
count_limited T Jobs = omega arith

-- So each table of them is short,
pub devices_short : (T : Tables) → length (section_of (limited T) Devices) ≤ 127
unfolding limited
devices_short T = omega (arith, length_section (limited T) Devices, length_devices (limited T) (min T.devices.count 9))

pub tasks_short : (T : Tables) → length (section_of (limited T) Tasks) ≤ 46
unfolding limited
tasks_short T = omega (arith, length_section (limited T) Tasks, length_tasks (limited T) (min T.tasks.count 9))

pub jobs_short : (T : Tables) → length (section_of (limited T) Jobs) ≤ 120
unfolding limited
jobs_short T = omega (arith, length_section (limited T) Jobs, length_jobs (limited T) (min T.jobs.count 17))

-- and their bytes fit the array.
pub limited_fits : (T : Tables) → length (bytes_of (limited T)) ≤ 297
unfolding bytes_of
limited_fits T =
    rw length-append
    (omega (arith, length_marker (limited T).kind, length_layout (limited T), devices_short T, tasks_short T, jobs_short T))
