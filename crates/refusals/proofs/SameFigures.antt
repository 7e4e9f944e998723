-- Files of whatever kinds that give the same figures, and are otherwise the same, are refused alike (rule 79): so what is accepted in one kind is accepted in the
-- other, and every promise over the one is a promise over the other.
use mathlib.Core.Path.{◌≡◌, refl, sym, ap, subst, ◌∙◌}
use mathlib.Core.Bool.{false}
use mathlib.Core.List.{List}
use Prim.Native.Nat.{ℕ, zero, suc, ◌+◌, ◌-◌, ◌*◌, ◌≤◌, ◌<◌}
use native.Mathlib.Omega.{arith}
use lib.Dec.{leb}
use lib.ListN.{length, get_or, drop, length-drop}
use lib.Seq.{get_or-drop}
use borrow.Author.Tests.{le-ltb}
use Rattle.base.specs.Bytes.{byte_at, pair_at}
use Rattle.base.specs.Refusals.{first_that, after, first_of}
use Rattle.base.proofs.Records.{after_from_lem}
use Rattle.base.proofs.Cases.{leb_same, ltb_same}
use Rattle.schedule.specs.declared.Recorder.{Recorder}
use Rattle.tables.specs.declared.Kind.{Kind}
use Rattle.tables.specs.Records.{device_at, device_size, task_at, job_at}
use Rattle.tables.specs.Layout.{kind_of, body_of, device_place, tasks_place, task_count, jobs_place}
use Rattle.request.specs.declared.Section.TheVariants.{DeviceRecords, TaskRecords, JobRecords}
use Rattle.request.specs.Format.{device_table, head_of, record_table, record_fault, horizon_of, count_of, job_records, job_section, task_section, fault_as, sleeps_in, recorder_as, read_of, refused}
use Rattle.request.proofs.Beyond.{SameTasks, horizon_same, unfolded_same}
use Rattle.request.proofs.Faultless.{read_faultless, read_fault}
use Rattle.request.proofs.Accepted.{accepted_as, number_as}
use Rattle.request.proofs.Marks.{Equal, one_recorder}
use Rattle.planner.specs.declared.Answer.{Answer}
use Rattle.planner.specs.Promises.{OfFile}
use Rattle.planner.specs.Promises as P
use Rattle.refusals.proofs.Complete.{head_in, refused_is}

-- Two files, of whatever kinds, with the same figures: their devices are all there and the same, and all else is the same bytes.
pub record Same (k : Kind) (s : List ℕ) (k' : Kind) (s' : List ℕ) : Type 0 where
  pub field : pair_at s 0 ≡ pair_at s' 0
  pub devices : byte_at s 2 ≡ byte_at s' 2
  pub same_devices : (i : ℕ) → i < byte_at s 2 → device_at k s (device_place k s i) ≡ device_at k' s' (device_place k' s' i)
  pub there : tasks_place k s ≤ length s
  pub there' : tasks_place k' s' ≤ length s'
  pub rest : drop (tasks_place k s) s ≡ drop (tasks_place k' s') s'

-- ---- the devices

record_there : (k : Kind) (s : List ℕ) (at : ℕ) → at + device_size k s at ≤ length s
    → record_fault s (DeviceRecords k) at ≡ first_that (device_table false (device_at k s at))
unfolding record_fault record_table
record_there k s at h =
    rw (le-ltb (length s - at) (head_of (DeviceRecords k)) (omega (arith, h, head_in k s at)), le-ltb (length s - at) (device_size k s at) (omega (arith, h)))

devices_same : (k k' : Kind) (s s' : List ℕ) (n at at' : ℕ) → after (device_size k s) n at ≤ length s → after (device_size k' s') n at' ≤ length s'
    → ((i : ℕ) → i < n → device_at k s (after (device_size k s) i at) ≡ device_at k' s' (after (device_size k' s') i at'))
    → first_of (record_fault s (DeviceRecords k)) (device_size k s) n at ≡ first_of (record_fault s' (DeviceRecords k')) (device_size k' s') n at'
unfolding first_of
devices_same k k' s s' zero at at' h h' e = refl
devices_same k k' s s' (suc n) at at' h h' e =
    let one : record_fault s (DeviceRecords k) at ≡ record_fault s' (DeviceRecords k') at' =
    record_there k s at (omega (arith, h, after_from_lem (device_size k s) n (at + device_size k s at)))
    ∙ ap (λ d. first_that (device_table false d)) (e 0 (omega arith))
    ∙ sym (record_there k' s' at' (omega (arith, h', after_from_lem (device_size k' s') n (at' + device_size k' s' at')))) in
    let more = devices_same k k' s s' n (at + device_size k s at) (at' + device_size k' s' at') h h' (λ i l. e (suc i) (omega (arith, l))) in
    cc (one, more)

-- ---- the rest, from a place of its own on in each

module _ (s s' : List ℕ) (p p' : ℕ) (rest : drop p s ≡ drop p' s') (here : p ≤ length s) (here' : p' ≤ length s') where
  -- Places equally far from where the rest begins.
  abbrev Level : ℕ → ℕ → Type 0
  Level at at' = (p ≤ at) × (at + p' ≡ at' + p)

  byte_on : (o : ℕ) → byte_at s (p + o) ≡ byte_at s' (p' + o)
  byte_on o = sym (get_or-drop p s o 0) ∙ ap (λ (l : List ℕ). get_or l o 0) rest ∙ get_or-drop p' s' o 0

  byte_same : (at at' : ℕ) → Level at at' → byte_at s at ≡ byte_at s' at'
  byte_same at at' h =
      let e : at ≡ p + (at - p) = omega (arith, h) in
      let e' : p' + (at - p) ≡ at' = omega (arith, h) in
      ap (byte_at s) e ∙ byte_on (at - p) ∙ ap (byte_at s') e'

  long_same : length s - p ≡ length s' - p'
  long_same = sym (length-drop p s) ∙ ap length rest ∙ length-drop p' s'

  left_same : (at at' : ℕ) → Level at at' → length s - at ≡ length s' - at'
  left_same at at' h = omega (arith, h, long_same, here, here')

  end_same : (at at' : ℕ) → Level at at' → leb (length s) at ≡ leb (length s') at'
  end_same at at' h = leb_same (length s) at (length s') at' (λ l. omega (arith, l, h, long_same, here, here')) (λ l. omega (arith, l, h, long_same, here, here'))

  task_same : (at at' : ℕ) → Level at at' → task_at s at ≡ task_at s' at'
  task_same at at' h =
      cc (
        byte_same at at' h,
        byte_same (at + 1) (at' + 1) (omega (arith, h), omega (arith, h)),
        byte_same (at + 2) (at' + 2) (omega (arith, h), omega (arith, h)),
        byte_same (at + 2 + 1) (at' + 2 + 1) (omega (arith, h), omega (arith, h)),
        byte_same (at + 4) (at' + 4) (omega (arith, h), omega (arith, h)),
      )

  job_same : (at at' : ℕ) → Level at at' → job_at s at ≡ job_at s' at'
  job_same at at' h =
      cc (
        byte_same at at' h,
        byte_same (at + 1) (at' + 1) (omega (arith, h), omega (arith, h)),
        byte_same (at + 2) (at' + 2) (omega (arith, h), omega (arith, h)),
        byte_same (at + 2 + 1) (at' + 2 + 1) (omega (arith, h), omega (arith, h)),
        byte_same (at + 4) (at' + 4) (omega (arith, h), omega (arith, h)),
        byte_same (at + 4 + 1) (at' + 4 + 1) (omega (arith, h), omega (arith, h)),
        byte_same (at + 6) (at' + 6) (omega (arith, h), omega (arith, h)),
      )

  task_fault : (n at at' : ℕ) → Level at at' → record_fault s (TaskRecords n) at ≡ record_fault s' (TaskRecords n) at'
  unfolding record_fault record_table
  task_fault n at at' h = cc (left_same at at' h, task_same at at' h)

  job_fault : (n t at at' : ℕ) → Level at at' → record_fault s (JobRecords n t) at ≡ record_fault s' (JobRecords n t) at'
  unfolding record_fault record_table
  job_fault n t at at' h = cc (left_same at at' h, job_same at at' h)

  records_same : (f f' : ℕ → ℕ) → ((at at' : ℕ) → Level at at' → f at ≡ f' at') → (c n at at' : ℕ) → Level at at' → first_of f (λ i. c) n at ≡ first_of f' (λ i. c) n at'
  unfolding first_of
  records_same f f' same c zero at at' h = refl
  records_same f f' same c (suc n) at at' h = cc (same at at' h, records_same f f' same c n (at + c) (at' + c) (omega (arith, h), omega (arith, h)))

  jobs_same : pair_at s 0 ≡ pair_at s' 0 → (n tasks from from' at at' : ℕ) → Level from from' → Level at at' → job_section s n tasks from at ≡ job_section s' n tasks from' at'
  unfolding job_section job_records count_of
  jobs_same field n tasks from from' at at' g h =
      let tasks_same : SameTasks s s' from from' tasks = λ i l. task_same (from + i * 5) (from' + i * 5) (omega (arith, g), omega (arith, g)) in
      let t = horizon_of s' tasks from' in
      let c = byte_at s' at' in
      let last = ltb_same (at + 1 + c * 7) (length s) (at' + 1 + c * 7) (length s') (λ l. omega (arith, l, h, long_same, here, here')) (λ l. omega (arith, l, h, long_same, here, here')) in
      cc (
        end_same at at' h,
        byte_same at at' h,
        field,
        horizon_same s s' tasks from from' field tasks_same,
        unfolded_same s s' tasks from from' t tasks_same,
        records_same (record_fault s (JobRecords n t)) (record_fault s' (JobRecords n t)) (job_fault n t) 7 c (at + 1) (at' + 1) (omega (arith, h), omega (arith, h)),
        last,
      )

  tasks_same_fault : pair_at s 0 ≡ pair_at s' 0 → (n at at' : ℕ) → Level at at' → task_section s n at ≡ task_section s' n at'
  unfolding task_section
  tasks_same_fault field n at at' h =
      let c = byte_at s' at' in
      cc (
        end_same at at' h,
        byte_same at at' h,
        records_same (record_fault s (TaskRecords n)) (record_fault s' (TaskRecords n)) (task_fault n) 5 c (at + 1) (at' + 1) (omega (arith, h), omega (arith, h)),
        jobs_same field n c (at + 1) (at' + 1) (at + 1 + c * 5) (at' + 1 + c * 5) (omega (arith, h), omega (arith, h)) (omega (arith, h), omega (arith, h)),
      )

-- ---- the whole file

module _ (k : Kind) (s : List ℕ) (k' : Kind) (s' : List ℕ) (e : Same k s k' s') where
  abbrev p : ℕ
  p = tasks_place k s

  abbrev p' : ℕ
  p' = tasks_place k' s'

  -- Their refusals are the same.
  pub equal_refusals : fault_as k s ≡ fault_as k' s'
  unfolding fault_as
  equal_refusals =
      let long = le-ltb (length s) 3 (omega (arith, e.there, after_from_lem (device_size k s) (byte_at s 2) 3)) in
      let long' = le-ltb (length s') 3 (omega (arith, e.there', after_from_lem (device_size k' s') (byte_at s' 2) 3)) in
      let ds = devices_same k k' s s' (byte_at s 2) 3 3 e.there (rw e.devices e.there') e.same_devices in
      let ts = tasks_same_fault s s' p p' e.rest e.there e.there' e.field (byte_at s 2) p p' (omega arith, omega arith) in
      cc (long, long', e.devices, ds, ts)

  same_tasks_count : task_count k s ≡ task_count k' s'
  same_tasks_count = byte_same s s' p p' e.rest e.there e.there' p p' (omega arith, omega arith)

  -- They are of equal figures.
  pub same_equal : Equal k s k' s'
  same_equal =
      let t = same_tasks_count in
      let at : Level s s' p p' e.rest e.there e.there' (jobs_place k s) (jobs_place k' s') = (omega arith, omega (arith, t)) in
      record {
        field = e.field;
        devices = e.devices;
        same_devices = e.same_devices;
        tasks = t;
        same_tasks = λ i l. task_same s s' p p' e.rest e.there e.there' (p + 1 + i * 5) (p' + 1 + i * 5) (omega arith, omega arith);
        jobs = byte_same s s' p p' e.rest e.there e.there' (jobs_place k s) (jobs_place k' s') at;
        same_jobs = λ j l. job_same s s' p p' e.rest e.there e.there' (jobs_place k s + 1 + j * 7) (jobs_place k' s' + 1 + j * 7) (omega arith, omega (arith, t));
      }

module _ (f f' : List ℕ) (e : Same (kind_of f) (body_of f) (kind_of f') (body_of f')) where
  abbrev k₁ : Kind
  k₁ = kind_of f

  abbrev k₂ : Kind
  k₂ = kind_of f'

  -- What is refused is refused by the same number, and what is accepted is accepted.
  pub refused_same : {n : ℕ} → P.Refused f n → P.Refused f' n
  unfolding read_of
  refused_same {n} r =
      let same : fault_as k₂ (body_of f') ≡ n = sym (equal_refusals k₁ (body_of f) k₂ (body_of f') e) ∙ refused_is k₁ (body_of f) n r in
      read_fault k₂ (body_of f') (λ z. omega (arith, z, same, number_as k₁ (body_of f) n r)) ∙ ap refused same

  pub accepted_same : {R : Recorder} → P.Reads f R → P.Reads f' (recorder_as k₂ (body_of f'))
  unfolding read_of
  accepted_same {R} r = read_faultless k₂ (body_of f') ((accepted_as k₁ (body_of f) R r).0 ∙ equal_refusals k₁ (body_of f) k₂ (body_of f') e)

  recorder_same : {R : Recorder} → P.Reads f R → sleeps_in k₁ ≡ sleeps_in k₂ → R ≡ recorder_as k₂ (body_of f')
  unfolding read_of
  recorder_same {R} r d = sym (accepted_as k₁ (body_of f) R r).1 ∙ one_recorder k₁ (body_of f) k₂ (body_of f') (same_equal k₁ (body_of f) k₂ (body_of f') e) d

  -- So whatever is promised of the one is promised of the other, in kinds that write a sleep alike, whether they are accepted or not.
  pub equal_answers : {L : Type 0} (lent : L) (Then : Recorder → Answer → L → Type 0) → sleeps_in k₁ ≡ sleeps_in k₂
      → {a : Answer} {l : L} → OfFile f lent Then a l → OfFile f' lent Then a l
  equal_answers lent Then d (P.OfFile.refused q) = P.OfFile.refused (refused_same q)
  equal_answers lent Then d (P.OfFile.read {a = a} {after = l} q t) = P.OfFile.read (accepted_same q) (subst (λ (Y : Recorder). Then Y a l) (recorder_same q d) t)
