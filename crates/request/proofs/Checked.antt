-- What a record that is not refused says, and the records of a section.
use mathlib.Core.Path.{◌≡◌, refl}
use mathlib.Core.List.{List}
use Prim.Native.Nat.{ℕ, ◌+◌, ◌-◌, ◌*◌, ◌<◌, ◌≤◌}
use native.Mathlib.Omega.{arith}
use native.Mathlib.Nat.{pos_of_ne-zero}
use lib.ListN.{length}
use lib.Dec.{ltb}
use borrow.Author.Tests.{ltb-false, eqb-false}
use Rattle.base.specs.Bytes.{pair_at}
use Rattle.base.specs.Refusals.{first_that, after}
use Rattle.base.proofs.Clear.{all_false, numbered, passed, clear}
use Rattle.base.proofs.Paths.{lt_then, lt_else}
use Rattle.base.proofs.Records.{first_room, first_even, after_even}
use Rattle.tables.specs.declared.Kind.{Kind}
use Rattle.tables.specs.Records.{device_at, device_size}
use Rattle.request.specs.declared.Section.{Section}
use Rattle.request.specs.declared.Section.TheVariants.{DeviceRecords, TaskRecords, JobRecords}
use Rattle.request.specs.inside.Held.{SoundTasks}
use Rattle.request.specs.Format.{powers_table, device_table, task_table, size_of, head_of, record_table, record_fault, records_fault}

module _ (s : List ℕ) (k : Section) (at : ℕ) where
  pub record_short : length s - at < head_of k → 1 ≡ record_fault s k at
  unfolding record_fault
  record_short h = lt_then _ _ _ _ h refl

  pub record_there : (r : ℕ) → head_of k ≤ length s - at → r ≡ first_that (record_table s k at) → r ≡ record_fault s k at
  unfolding record_fault
  record_there r h e = lt_else _ _ _ _ h e

  -- Of a record that is not refused what is called for is there, and no test of its table holds.
  record_head : 0 ≡ record_fault s k at → head_of k ≤ length s - at
  unfolding record_fault
  record_head e = ltb-false (length s - at) (head_of k) (passed _ 1 _ tt e).0

  pub record_clear : numbered (record_table s k at) → 0 ≡ record_fault s k at → all_false (record_table s k at)
  unfolding record_fault
  record_clear n e = clear (record_table s k at) n (passed (ltb (length s - at) (head_of k)) 1 _ tt e).1

-- The tests of a device record that is not refused.
pub device_clear : (s : List ℕ) (k : Kind) (at : ℕ) → 0 ≡ record_fault s (DeviceRecords k) at
    → all_false (device_table (ltb (length s - at) (device_size k s at)) (device_at k s at))
unfolding record_table device_table powers_table
device_clear s k at e = record_clear s (DeviceRecords k) at (tt, (tt, (tt, (tt, (tt, (tt, (tt, (tt, (tt, (tt, (tt, tt))))))))))) e

-- So it lies within the file.
pub record_room : (s : List ℕ) (k : Section) (at : ℕ) → at ≤ length s → 0 ≡ record_fault s k at → at + size_of s k at ≤ length s
unfolding device_table
record_room s (DeviceRecords k) at h e = omega (arith, ltb-false (length s - at) (device_size k s at) (device_clear s k at e).1.1.1.1.0)
record_room s (TaskRecords n) at h e = omega (arith, record_head s (TaskRecords n) at e)
record_room s (JobRecords n m) at h e = omega (arith, record_head s (JobRecords n m) at e)

pub records_room : (s : List ℕ) (k : Section) (n at : ℕ) → at ≤ length s → 0 ≡ records_fault s k n at → after (size_of s k) n at ≤ length s
records_room s k = first_room (record_fault s k) (size_of s k) (length s) (record_room s k)

-- A task that is not refused has a period from 1 to 4,096.
task_period : (s : List ℕ) (d at : ℕ) → 0 ≡ record_fault s (TaskRecords d) at → (0 < pair_at s at) × (pair_at s at ≤ 4096)
unfolding record_table task_table
task_period s d at e =
    let f = record_clear s (TaskRecords d) at (tt, (tt, (tt, (tt, (tt, tt))))) e in
    (pos_of_ne-zero (eqb-false (pair_at s at) 0 f.0), ltb-false 4096 (pair_at s at) f.1.0)

pub tasks_sound : (s : List ℕ) (d n from : ℕ) → from ≤ length s → 0 ≡ records_fault s (TaskRecords d) n from → SoundTasks s n from
tasks_sound s d n from h e =
    record {
      there = rw (after_even 5 n from) at (records_room s (TaskRecords d) n from h e);
      periods = λ i l. task_period s d (from + i * 5) (first_even (record_fault s (TaskRecords d)) 5 n from i l e);
    }

pub jobs_room : (s : List ℕ) (d h n from : ℕ) → from ≤ length s → 0 ≡ records_fault s (JobRecords d h) n from → from + n * 7 ≤ length s
jobs_room s d h n from l e = rw (after_even 7 n from) at (records_room s (JobRecords d h) n from l e)

-- The first of them, and the others.
pub sound_first : (s : List ℕ) (n at : ℕ) → 0 < n → SoundTasks s n at → (0 < pair_at s at) × (pair_at s at ≤ 4096)
sound_first s n at h ok =
    let e : at + 0 * 5 ≡ at = omega arith in
    rw e at (ok.periods 0 h)

pub sound_next : (s : List ℕ) (n at : ℕ) → 0 < n → SoundTasks s n at → SoundTasks s (n - 1) (at + 5)
sound_next s n at h ok =
    record {
      there = omega (arith, ok.there);
      periods = λ i l. let e : at + (i + 1) * 5 ≡ at + 5 + i * 5 = omega arith in rw e at (ok.periods (i + 1) (omega arith));
    }
