-- For callers that lay tables out: tables whose counts are limited to one above the limits of a file read as they did before. And a file without a fault has whole tables.
use mathlib.Core.Path.{◌≡◌, refl, sym, ap, ◌∙◌}
use mathlib.Core.Bool.{Bool, true, false, cond, not, ◌||◌}
use mathlib.Core.List.{List}
use mathlib.Core.Logic.{⊎_elim}
use Prim.Native.Nat.{ℕ, ◌+◌, ◌*◌, ◌<◌, ◌≤◌, min}
use native.Mathlib.Omega.{arith}
use native.Mathlib.Decide.{dec_lt}
use native.Mathlib.Nat.{eq-zero-or-pos}
use lib.ListN.{length}
use lib.Dec.{ltb, eqb}
use borrow.Author.Tests.{lt-ltb, le-ltb, lt-leb, eq-eqb, ne_eqb}
use Rattle.base.specs.Bytes.{byte_at, pair_at}
use Rattle.base.specs.Refusals.{or_else}
use Rattle.base.proofs.Records.{after_even}
use Rattle.schedule.specs.declared.Recorder.{Recorder}
use Rattle.tables.specs.declared.Kind.{Kind}
use Rattle.tables.specs.declared.Tables.{Tables}
use Rattle.tables.specs.declared.TableName.{TableName}
use Rattle.tables.specs.declared.TableName.TheVariants.{Devices, Tasks, Jobs}
use Rattle.tables.specs.Layout.{record_in, layout_of, tasks_place, task_count, jobs_place}
use Rattle.tables.specs.inside.Held.{limited, Whole}
use Rattle.tables.proofs.Back.{read_horizon, tasks_place_lem, jobs_place_lem}
use Rattle.tables.proofs.Joining.{record_limited, length_layout, length_section}
use Rattle.tables.proofs.Parts.{place_in, count_is, front_long, tasks_front, jobs_front, tasks_at_same, jobs_at_same}
use Rattle.request.specs.declared.Section.TheVariants.{DeviceRecords, TaskRecords}
use Rattle.request.specs.Format.{records_fault, horizon_of, mixed, count_of, job_records, job_section, task_section, fault_as, read_as, accepted, refused}
use Rattle.request.proofs.Checked.{jobs_room}
use Rattle.request.proofs.Faultless.{faultless, few_listed, read_fault}
use Rattle.request.proofs.Accepted.{accepted_as}
use Rattle.request.proofs.Alike.{Alike, records_same}

-- ---- a count above its limit decides

over_devices : (k : Kind) (s : List ℕ) → 3 ≤ length s → 8 < byte_at s 2 → fault_as k s ≡ 3
unfolding fault_as
over_devices k s h l = rw (le-ltb (length s) 3 h, lt-ltb 8 (byte_at s 2) l)

over_tasks : (s : List ℕ) (n at : ℕ) → at < length s → 8 < byte_at s at → task_section s n at ≡ 6
unfolding task_section
over_tasks s n at h l = rw (lt-leb (length s) at h, lt-ltb 8 (byte_at s at) l)

pub or_true : (b : Bool) → (not b || true) ≡ true
or_true true = refl
or_true false = refl

-- With more than 16 jobs: 11 where there are tasks, else 10 for the field or 12.
abbrev pub many_jobs : ℕ → ℕ → ℕ
many_jobs tasks field = cond (not (eqb tasks 0)) 11 (cond (eqb field 0) 10 (cond (ltb 4096 field) 10 12))

over_jobs : (s : List ℕ) (n tasks from at : ℕ) → at < length s → 16 < byte_at s at → job_section s n tasks from at ≡ many_jobs tasks (pair_at s 0)
unfolding job_section job_records mixed count_of horizon_of
over_jobs s n tasks from at h l =
    let some : eqb (byte_at s at) 0 ≡ false = ne_eqb (byte_at s at) 0 (λ z. omega arith) in
    ⊎_elim
    (λ z. rw (lt-leb (length s) at h, eq-eqb tasks 0 z, lt-ltb 16 (byte_at s at) l))
    (λ p. rw (lt-leb (length s) at h, ne_eqb tasks 0 (λ z. omega arith), some, or_true (eqb (pair_at s 0) 0)))
    (eq-zero-or-pos tasks)

-- ---- a count within its limit goes on

on_devices : (k : Kind) (s : List ℕ) → 3 ≤ length s → byte_at s 2 ≤ 8
    → fault_as k s ≡ or_else (records_fault s (DeviceRecords k) (byte_at s 2) 3) (task_section s (byte_at s 2) (tasks_place k s))
unfolding fault_as
on_devices k s h l = rw (le-ltb (length s) 3 h, le-ltb 8 (byte_at s 2) l)

on_tasks : (s : List ℕ) (n at : ℕ) → at < length s → byte_at s at ≤ 8
    → task_section s n at ≡ or_else (records_fault s (TaskRecords n) (byte_at s at) (at + 1)) (job_section s n (byte_at s at) (at + 1) (at + 1 + byte_at s at * 5))
unfolding task_section
on_tasks s n at h l = rw (lt-leb (length s) at h, le-ltb 8 (byte_at s at) l)

-- ---- two tables that begin alike

-- What the layout of tables is refused for, by their counts.
module _ (T : Tables) where
  abbrev file : List ℕ
  file = layout_of T

  abbrev devices_fault : ℕ
  devices_fault = records_fault file (DeviceRecords T.kind) T.devices.count 3

  abbrev tasks_fault : ℕ
  tasks_fault = records_fault file (TaskRecords T.devices.count) T.tasks.count (place_in T Tasks + 1)

  head : 3 ≤ length file
  head = omega (arith, length_layout T, length_section T Devices)

  fault_over : 8 < T.devices.count → fault_as T.kind file ≡ 3
  fault_over l = over_devices T.kind file head (rw (count_is T Devices) l)

  fault_on : T.devices.count ≤ 8 → fault_as T.kind file ≡ or_else devices_fault (task_section file T.devices.count (place_in T Tasks))
  fault_on l = rw (count_is T Devices, tasks_place_lem T) at (on_devices T.kind file head (rw (count_is T Devices) l))

  tasks_over : (n : ℕ) → 8 < T.tasks.count → task_section file n (place_in T Tasks) ≡ 6
  tasks_over n l = over_tasks file n (place_in T Tasks) (front_long T Tasks) (rw (count_is T Tasks) l)

  tasks_on : (n : ℕ) → T.tasks.count ≤ 8
      → task_section file n (place_in T Tasks)
      ≡ or_else (records_fault file (TaskRecords n) T.tasks.count (place_in T Tasks + 1)) (job_section file n T.tasks.count (place_in T Tasks + 1) (place_in T Jobs))
  tasks_on n l = rw (count_is T Tasks, jobs_place_lem T) at (on_tasks file n (place_in T Tasks) (front_long T Tasks) (rw (count_is T Tasks) l))

  jobs_over : (n from : ℕ) → 16 < T.jobs.count → job_section file n T.tasks.count from (place_in T Jobs) ≡ many_jobs T.tasks.count T.horizon
  jobs_over n from l =
      rw (read_horizon T) at (over_jobs file n T.tasks.count from (place_in T Jobs) (front_long T Jobs) (rw (count_is T Jobs) l))

  fault_at_tasks : T.devices.count ≤ 8 → 8 < T.tasks.count → fault_as T.kind file ≡ or_else devices_fault 6
  fault_at_tasks d k = rw (tasks_over T.devices.count k) at (fault_on d)

  fault_at_jobs : T.devices.count ≤ 8 → T.tasks.count ≤ 8 → 16 < T.jobs.count
      → fault_as T.kind file ≡ or_else devices_fault (or_else tasks_fault (many_jobs T.tasks.count T.horizon))
  fault_at_jobs d k j = rw (tasks_on T.devices.count k, jobs_over T.devices.count (place_in T Tasks + 1) j) at (fault_on d)

-- The same fault, where the first count above its limit is above it in both.
module _
    (T U : Tables) (kind : T.kind ≡ U.kind) (h : T.horizon ≡ U.horizon) (r : (p : TableName) → record_in T p ≡ record_in U p)
    (d : T.devices.count ≡ U.devices.count) (few : T.devices.count ≤ 8)
  where
    same_at_tasks : 8 < T.tasks.count → 8 < U.tasks.count → fault_as T.kind (layout_of T) ≡ fault_as U.kind (layout_of U)
    same_at_tasks k k' =
        let n = T.devices.count in
        let q = tasks_at_same T U h r d in
        let a : Alike (place_in T Tasks) (layout_of T) (layout_of U) = record { long = omega (arith, front_long T Tasks); long' = omega (arith, front_long U Tasks, q); same = tasks_front T U h r d } in
        let e = records_same (place_in T Tasks) (layout_of T) (layout_of U) a (DeviceRecords T.kind) n 3 (omega (arith, tasks_place_lem T)) in
        let f = fault_at_tasks T few k in
        let g = fault_at_tasks U (omega arith) k' in
        cc

    same_at_jobs : T.tasks.count ≡ U.tasks.count → T.tasks.count ≤ 8 → 16 < T.jobs.count → 16 < U.jobs.count
        → fault_as T.kind (layout_of T) ≡ fault_as U.kind (layout_of U)
    same_at_jobs t few_tasks j j' =
        let n = T.devices.count in
        let k = T.tasks.count in
        let q = tasks_at_same T U h r d in
        let q' = jobs_at_same T U h r d t in
        let a : Alike (place_in T Jobs) (layout_of T) (layout_of U) = record { long = omega (arith, front_long T Jobs); long' = omega (arith, front_long U Jobs, q'); same = jobs_front T U h r d t } in
        let e = records_same (place_in T Jobs) (layout_of T) (layout_of U) a (DeviceRecords T.kind) n 3 (omega (arith, tasks_place_lem T)) in
        let e' = records_same (place_in T Jobs) (layout_of T) (layout_of U) a (TaskRecords n) k (place_in T Tasks + 1) (omega (arith, after_even 5 k (place_in T Tasks + 1), jobs_place_lem T)) in
        let f = fault_at_jobs T few few_tasks j in
        let g = fault_at_jobs U (omega arith) (omega arith) j' in
        cc

-- ---- tables whose counts are cut

module _ (T : Tables) where
  pub limited_same : T.devices.count ≤ 8 → T.tasks.count ≤ 8 → T.jobs.count ≤ 16 → limited T ≡ T
  unfolding limited
  limited_same d k j =
      let a : min T.devices.count 9 ≡ T.devices.count = omega arith in
      let b : min T.tasks.count 9 ≡ T.tasks.count = omega arith in
      let c : min T.jobs.count 17 ≡ T.jobs.count = omega arith in
      rw (a, b, c)

  -- They are refused for what the tables are refused for.
  fault_limited : fault_as (limited T).kind (layout_of (limited T)) ≡ fault_as T.kind (layout_of T)
  unfolding limited
  fault_limited =
      elim (dec_lt 8 T.devices.count) [
        | yes d ↦ fault_over (limited T) (omega arith) ∙ sym (fault_over T d)
        | no d ↦
            elim (dec_lt 8 T.tasks.count) [
              | yes k ↦ same_at_tasks (limited T) T refl refl (record_limited T) (omega arith) (omega arith) (omega arith) k
              | no k ↦
                  elim (dec_lt 16 T.jobs.count) [
                    | yes j ↦ same_at_jobs (limited T) T refl refl (record_limited T) (omega arith) (omega arith) (omega arith) (omega arith) (omega arith) j
                    | no j ↦ ap (λ (U : Tables). fault_as U.kind (layout_of U)) (limited_same (omega arith) (omega arith) (omega arith))
                  ]
            ]
      ]

-- ---- a file without a fault

whole : (k : Kind) (s : List ℕ) → 0 ≡ fault_as k s → Whole k s
unfolding count_of
whole k s e =
    let ok = faultless k s e in
    record {
      few_devices = ok.few_devices;
      few_tasks = ok.few_tasks;
      few_jobs = few_listed (task_count k s) (pair_at s 0) (byte_at s (jobs_place k s)) _ ok.jobs.apart ok.jobs.few_jobs;
      ends = omega (arith, ok.jobs.whole, jobs_room s (byte_at s 2) _ (byte_at s (jobs_place k s)) (jobs_place k s + 1) (omega (arith, ok.jobs.there)) ok.jobs.records);
    }

-- Its tables are whole,
pub accepted_whole : (k : Kind) (s : List ℕ) (R : Recorder) → read_as k s ≡ accepted R → Whole k s
accepted_whole k s R e = whole k s (accepted_as k s R e).0

-- and where it is that of tables, nothing of them is cut.
faultless_limited : (T : Tables) → 0 ≡ fault_as T.kind (layout_of T) → limited T ≡ T
faultless_limited T e =
    let w = whole T.kind (layout_of T) e in
    limited_same T
    (rw (count_is T Devices) at w.few_devices)
    (rw (count_is T Devices, tasks_place_lem T, count_is T Tasks) at w.few_tasks)
    (rw (count_is T Devices, tasks_place_lem T, count_is T Tasks, jobs_place_lem T, count_is T Jobs) at w.few_jobs)

pub accepted_limited : (T : Tables) (R : Recorder) → read_as T.kind (layout_of T) ≡ accepted R → limited T ≡ T
accepted_limited T R e = faultless_limited T (accepted_as T.kind (layout_of T) R e).0

pub read_limited : (T : Tables) → read_as (limited T).kind (layout_of (limited T)) ≡ read_as T.kind (layout_of T)
read_limited T =
    ⊎_elim
    (λ z. ap (λ (U : Tables). read_as U.kind (layout_of U)) (faultless_limited T (sym z)))
    (λ p.
    let some : fault_as T.kind (layout_of T) ≡ 0 → ⊥ = λ z. omega arith in
    read_fault (limited T).kind (layout_of (limited T)) (λ z. some (sym (fault_limited T) ∙ z)) ∙ ap refused (fault_limited T) ∙ sym (read_fault T.kind (layout_of T) some))
    (eq-zero-or-pos (fault_as T.kind (layout_of T)))
