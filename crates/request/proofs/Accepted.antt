-- For callers: what a file that is accepted guarantees, and what is handed on of a reading.
use mathlib.Core.Path.{◌≡◌, sym, ap, subst, ◌∙◌}
use mathlib.Core.Bool.{false}
use mathlib.Core.List.{List}
use mathlib.Core.Logic.{◌⊎◌, ⊎_elim}
use Prim.Native.Nat.{ℕ, zero, suc, ◌+◌, ◌*◌, ◌<◌, ◌≤◌, ◌∣◌}
use native.Mathlib.Omega.{arith}
use native.Mathlib.Nat.{pos_of_ne-zero, le_refl}
use lib.ListN.{length, get_or, length-append}
use lib.Dec.{eqb}
use borrow.Author.Tests.{lt-ltb, ltb-false, leb-false, eqb-true, eqb-false}
use Rattle.base.specs.Bytes.{byte_at, pair_at}
use Rattle.base.specs.Lists.{padded}
use Rattle.base.proofs.Arrays.{get_d_held, get_d_up_to, length_up_to}
use Rattle.base.proofs.Cases.{cond_cases}
use Rattle.base.proofs.Every.{Every, every_at}
use Rattle.base.proofs.Records.{first_each}
use Rattle.device.specs.Row.{Sound, power_at}
use Rattle.schedule.specs.declared.Recorder.{Recorder}
use Rattle.schedule.specs.Quantities.{no_job, no_device, Valid}
use Rattle.request.specs.declared.Section.TheVariants.{DeviceRecords}
use Rattle.tables.specs.declared.Kind.{Kind}
use Rattle.tables.specs.declared.DeviceRecord.{DeviceRecord}
use Rattle.tables.specs.Records.{device_at}
use Rattle.tables.specs.Layout.{marker, kind_of, body_of, device_place, task_count, tasks_place, jobs_place}
use Rattle.tables.proofs.Back.{mark_front}
use Rattle.request.specs.Format.{refused, accepted, device_of, no_lower, powers_table, device_table, size_of, record_fault, horizon_of, jobs_of, count_of, fault_as, horizon_in, devices_in, jobs_in, vacant_device, vacant_job, recorder_as, read_as, read_of}
use Rattle.request.proofs.Checked.{device_clear}
use Rattle.request.proofs.Faultless.{Faultless, faultless, length_jobs, jobs_end, device_most, place_most}
use Rattle.request.proofs.Fitting.{Fits, listed_fit, unfolded_fit}
use Rattle.request.proofs.Highest.{fault_known}
use Rattle.request.proofs.Multiples.{horizon_multiple}

-- ---- the recorder of a file without a fault

-- A level that is one of the device's costs less than the one above it.
lower : (levels i above power : ℕ) → no_lower levels i above power ≡ false → i < levels → power < above
unfolding no_lower
lower levels i above power e l = leb-false above power (rw (lt-ltb i levels l) at e)

device_sound : (k : Kind) (s : List ℕ) (at : ℕ) → 0 ≡ record_fault s (DeviceRecords k) at → Sound (device_of (device_at k s at))
unfolding device_table powers_table
device_sound k s at e =
    let d = device_at k s at in
    let f = device_clear s k at e in
    let p = f.1.1.1.1.1 in
    let few = ltb-false 4 d.levels f.1.1.1.0 in
    record {
      some_level = pos_of_ne-zero (eqb-false d.levels 0 f.1.1.0);
      few_levels = few;
      shuts = pos_of_ne-zero (eqb-false d.shut 0 f.1.0);
      wakes = pos_of_ne-zero (eqb-false d.wake 0 f.0);
      falls = falls d few p.1.1.0 p.1.1.1.0 p.1.1.1.1.0 p.1.1.1.1.1.0;
      shuts_dearer = leb-false d.pshut d.ps p.1.0;
      wakes_dearer = leb-false d.pwake d.ps p.0;
    }
  where
    falls : (d : DeviceRecord) → d.levels ≤ 4 → no_lower d.levels 0 d.pw d.ps ≡ false → no_lower d.levels 1 d.ps d.ps2 ≡ false
        → no_lower d.levels 2 d.ps2 d.ps3 ≡ false → no_lower d.levels 3 d.ps3 d.ps4 ≡ false
        → (i : ℕ) → i < (device_of d).levels → power_at (device_of d) (suc i) < power_at (device_of d) i
    falls d h a b c e zero l = lower d.levels 0 d.pw d.ps a l
    falls d h a b c e (suc zero) l = lower d.levels 1 d.ps d.ps2 b l
    falls d h a b c e (suc (suc zero)) l = lower d.levels 2 d.ps2 d.ps3 c l
    falls d h a b c e (suc (suc (suc zero))) l = lower d.levels 3 d.ps3 d.ps4 e l
    falls d h a b c e (suc (suc (suc (suc i)))) l = absurd (omega arith)

module _ (k : Kind) (s : List ℕ) (ok : Faultless k s) where
  devices_sound : (i : ℕ) → i < length (devices_in k s) → Sound (get_or (padded 8 vacant_device (devices_in k s)) i no_device)
  devices_sound i l =
      let b : i < byte_at s 2 = rw length_up_to at l in
      rw (get_d_held 8 vacant_device (devices_in k s) i no_device l, get_d_up_to _ _ _ _ b)
      (device_sound k s (device_place k s i) (first_each (record_fault s (DeviceRecords k)) (size_of s (DeviceRecords k)) (byte_at s 2) 3 i b ok.device_records))

  -- Each period divides a horizon that tasks give.
  periods_divide : eqb (task_count k s) 0 ≡ false → (i : ℕ) → i < task_count k s → pair_at s (tasks_place k s + 1 + i * 5) ∣ horizon_in k s
  unfolding horizon_of
  periods_divide z i l = rw z (horizon_multiple s (task_count k s) (tasks_place k s + 1) i l)

  jobs_fit : Every (Fits (horizon_in k s) (byte_at s 2)) (jobs_in k s)
  unfolding jobs_of
  jobs_fit =
      cond_cases (Every (Fits (horizon_in k s) (byte_at s 2))) (eqb (task_count k s) 0)
      (λ z. listed_fit s (byte_at s 2) (horizon_in k s) (byte_at s (jobs_place k s)) (jobs_place k s + 1) ok.jobs.records)
      (λ z. unfolded_fit s (byte_at s 2) (horizon_in k s) (task_count k s) (tasks_place k s + 1) ok.task_records (periods_divide z) (horizon_in k s) (le_refl (horizon_in k s)))

  held_fits : (j : ℕ) → j < length (jobs_in k s) → Fits (horizon_in k s) (byte_at s 2) (get_or (padded 16 vacant_job (jobs_in k s)) j no_job)
  held_fits j l = rw (get_d_held 16 vacant_job (jobs_in k s) j no_job l) (every_at (Fits (horizon_in k s) (byte_at s 2)) (jobs_in k s) no_job jobs_fit j l)

  valid : Valid (recorder_as k s)
  unfolding recorder_as
  valid =
      record {
        some_tick = ok.jobs.some_tick;
        few_ticks = ok.jobs.few_ticks;
        few_devices = rw length_up_to ok.few_devices;
        sound = devices_sound;
        few_jobs = length_jobs _ _ _ _ _ ok.jobs;
        runs = λ j l. (held_fits j l).runs;
        fits = λ j l. (held_fits j l).fits;
        ends = λ j l. (held_fits j l).ends;
        known = λ j i l m. (held_fits j l).known i (rw length_up_to at m);
      }

-- ---- what a reading tells of the file

module _ (k : Kind) (s : List ℕ) where
  pub accepted_as : (R : Recorder) → read_as k s ≡ accepted R → (0 ≡ fault_as k s) × (recorder_as k s ≡ R)
  unfolding read_as
  accepted_as R =
      cond_cases (λ w. w ≡ accepted R → (0 ≡ fault_as k s) × (recorder_as k s ≡ R)) (eqb (fault_as k s) 0)
      (λ z e. (sym (eqb-true (fault_as k s) 0 z), (cc)))
      (λ z e. let never : ◌≡◌ {A = ℕ} 0 1 = cc in absurd (omega arith))

  refused_as : (n : ℕ) → read_as k s ≡ refused n → (fault_as k s ≡ n) × (n ≡ 0 → ⊥)
  unfolding read_as
  refused_as n =
      cond_cases (λ w. w ≡ refused n → (fault_as k s ≡ n) × (n ≡ 0 → ⊥)) (eqb (fault_as k s) 0)
      (λ z e. let never : ◌≡◌ {A = ℕ} 0 1 = cc in absurd (omega arith))
      (λ z e. let same : fault_as k s ≡ n = cc in (same, λ y. eqb-false (fault_as k s) 0 z (same ∙ y)))

  -- The recorder of what is accepted is within all ranges,
  pub valid_as : (R : Recorder) → read_as k s ≡ accepted R → Valid R
  valid_as R e =
      let p = accepted_as R e in
      subst Valid p.1 (valid k s (faultless k s p.0))

  -- and there are few bytes.
  pub short_as : (R : Recorder) → read_as k s ≡ accepted R → length s ≤ 117 + 8 * device_most k
  unfolding count_of
  short_as R e =
      let ok = faultless k s (accepted_as R e).0 in
      let at = jobs_place k s in
      let start : at ≤ 4 + 8 * device_most k + task_count k s * 5 = omega (arith, place_most k s (byte_at s 2) ok.few_devices) in
      omega (arith, ok.jobs.whole, jobs_end (task_count k s) (pair_at s 0) (byte_at s at) _ at (4 + 8 * device_most k) ok.few_tasks start ok.jobs.apart ok.jobs.few_jobs)

  -- A refusal is one of the numbers 1 to 13, or 26.
  pub known_as : (n : ℕ) → read_as k s ≡ refused n → (n ≤ 13) ⊎ (n ≡ 26)
  known_as n e = rw (← (refused_as n e).0) (fault_known k s)

  pub number_as : (n : ℕ) → read_as k s ≡ refused n → (1 ≤ n) × (n ≤ 26)
  number_as n e = (pos_of_ne-zero (refused_as n e).1, ⊎_elim (λ (l : n ≤ 13). omega arith) (λ (l : n ≡ 26). omega arith) (known_as n e))

-- The same of a file, read by its own kind.
module _ (s : List ℕ) where
  pub accepted_valid : (R : Recorder) → read_of s ≡ accepted R → Valid R
  unfolding read_of
  accepted_valid R e = valid_as (kind_of s) (body_of s) R e

  pub refused_number : (n : ℕ) → read_of s ≡ refused n → (1 ≤ n) × (n ≤ 26)
  unfolding read_of
  refused_number n e = number_as (kind_of s) (body_of s) n e

  pub refused_known : (n : ℕ) → read_of s ≡ refused n → (n ≤ 13) ⊎ (n ≡ 26)
  unfolding read_of
  refused_known n e = known_as (kind_of s) (body_of s) n e

-- The longest file of a kind that is accepted: 173 bytes in the first, 199 in the second, 231 in the third.
abbrev pub longest : Kind → ℕ
longest k = length (marker k) + (117 + 8 * device_most k)

pub accepted_short : (s : List ℕ) (R : Recorder) → read_of s ≡ accepted R → length s ≤ longest (kind_of s)
unfolding read_of
accepted_short s R e = omega (arith, short_as (kind_of s) (body_of s) R e, length-append (marker (kind_of s)) (body_of s), ap length (mark_front s))
