-- Nothing is read beyond the end of the longest file: one of 232 bytes or more is refused as its first 232 bytes are.
use mathlib.Core.Path.{◌≡◌, refl, sym, ap, ◌∙◌}
use mathlib.Core.Bool.{Bool, true, false, cond}
use mathlib.Core.List.{List, ◌++◌}
use Prim.Native.Nat.{ℕ, zero, suc, ◌+◌, ◌-◌, ◌*◌, ◌<◌, ◌≤◌}
use native.Mathlib.Omega.{arith}
use lib.ListN.{length, take, drop, length-drop}
use lib.Seq.{get_or-take, get_or-drop, length-take-le}
use lib.Dec.{ltb, eqb}
use borrow.Author.Tests.{lt-ltb, le-ltb, lt-leb, ltb-false}
use Rattle.base.specs.Bytes.{byte_at, pair_at}
use Rattle.base.specs.Refusals.{or_else}
use Rattle.base.proofs.Records.{after_even}
use Rattle.tables.specs.declared.TaskRecord.{TaskRecord}
use Rattle.request.specs.declared.Section.TheVariants.{DeviceRecords, TaskRecords, JobRecords}
use Rattle.tables.specs.declared.Kind.{Kind}
use Rattle.tables.specs.declared.Kind.TheVariants.{First, Second, Third}
use Rattle.tables.specs.Records.{task_at}
use Rattle.tables.specs.Layout.{marker, kind_of, device_place}
use Rattle.request.specs.Format.{records_fault, lcm_from, horizon_of, released, released_at, unfolded, mixed, count_of, job_records, job_section, task_section, fault_as, refused, read_as, read_of}
use Rattle.request.proofs.Multiples.{first, next}
use Rattle.request.proofs.Alike.{Alike, pair_same, records_same, place_same}
use Rattle.request.proofs.Faultless.{jobs_end, device_most, place_most, read_faultless, read_fault}
use Rattle.request.proofs.Accepted.{short_as}

-- A refusal that both give by the same test.
either : {A : Type 0} (t : Bool) (a : A) {b b' : A} → (t ≡ false → b ≡ b') → cond t a b ≡ cond t a b'
either true a h = refl
either false a h = h refl

-- ---- tasks that are the same in two files, each from a place of its own on

module _ (s s' : List ℕ) (from from' : ℕ) where
  -- The first n of them.
  abbrev pub SameTasks : ℕ → Type 0
  SameTasks n = (i : ℕ) → i < n → task_at s (from + i * 5) ≡ task_at s' (from' + i * 5)

module _ (s s' : List ℕ) where
  pub lcm_same : (n from from' h : ℕ) → SameTasks s s' from from' n → lcm_from s n from h ≡ lcm_from s' n from' h
  unfolding lcm_from
  lcm_same zero from from' h e = refl
  lcm_same (suc n) from from' h e =
      let p : pair_at s from ≡ pair_at s' from' = ap (λ (t : TaskRecord). t.period) (rw (first from, first from') at (e 0 (omega arith))) in
      rw p (lcm_same n (from + 5) (from' + 5) _ (λ i l. rw (next from i, next from' i) at (e (suc i) (omega arith))))

  pub horizon_same : (tasks from from' : ℕ) → pair_at s 0 ≡ pair_at s' 0 → SameTasks s s' from from' tasks → horizon_of s tasks from ≡ horizon_of s' tasks from'
  unfolding horizon_of
  horizon_same tasks from from' e h = rw (e, lcm_same tasks from from' 1 h)

  released_same : (n from from' t : ℕ) → SameTasks s s' from from' n → released_at s n from t ≡ released_at s' n from' t
  unfolding released_at
  released_same zero from from' t e = refl
  released_same (suc n) from from' t e =
      rw (released_same n from from' t (λ i l. e i (omega arith)))
      (ap (λ (k : TaskRecord). released_at s' n from' t ++ released k t) (e n (omega arith)))

  pub unfolded_same : (n from from' t : ℕ) → SameTasks s s' from from' n → unfolded s n from t ≡ unfolded s' n from' t
  unfolding unfolded
  unfolded_same n from from' zero e = refl
  unfolded_same n from from' (suc t) e = rw (unfolded_same n from from' t e, released_same n from from' t e)

-- ---- the sections, from the last to the first: both files have all the bytes that one of the kind can have, and one more

module _ (k : Kind) (p : ℕ) (s s' : List ℕ) (a : Alike p s s') (far : 118 + 8 * device_most k ≤ p) where
  tasks_alike : (tasks from : ℕ) → from + tasks * 5 ≤ p → SameTasks s s' from from tasks
  tasks_alike tasks from h i l =
      cc (pair_same p s s' a (from + i * 5) (omega arith), pair_same p s s' a (from + i * 5 + 2) (omega arith), a.same (from + i * 5 + 4) (omega arith))

  records_end : (n h count at : ℕ) → at + 1 + count * 7 < p →
      or_else (records_fault s (JobRecords n h) count (at + 1)) (cond (ltb (at + 1 + count * 7) (length s)) 2 0)
      ≡ or_else (records_fault s' (JobRecords n h) count (at + 1)) (cond (ltb (at + 1 + count * 7) (length s')) 2 0)
  records_end n h count at l =
      let b : at + 1 + count * 7 < length s = omega (arith, a.long) in
      let b' : at + 1 + count * 7 < length s' = omega (arith, a.long') in
      rw (records_same p s s' a (JobRecords n h) count (at + 1) (omega (arith, after_even 7 count (at + 1))), lt-ltb _ _ b, lt-ltb _ _ b')

  jobs_same :
      (n tasks from at h : ℕ) → tasks ≤ 8 → from + tasks * 5 ≤ p → at ≤ 4 + 8 * device_most k + tasks * 5 → mixed tasks (pair_at s 0) (byte_at s at) ≡ false →
      job_records s n tasks from at h ≡ job_records s' n tasks from at h
  unfolding job_records count_of
  jobs_same n tasks from at h few l m e =
      rw (← a.same at (omega arith), ← unfolded_same s s' tasks from from h (tasks_alike tasks from l))
      (either (ltb 16 (count_of s tasks from (byte_at s at) h)) 12
      (λ z. records_end n h (byte_at s at) at (omega (arith, jobs_end tasks (pair_at s 0) (byte_at s at) _ at (4 + 8 * device_most k) few m e (ltb-false 16 _ z)))))

  section_same :
      (n tasks from at : ℕ) → tasks ≤ 8 → from + tasks * 5 ≤ p → at ≤ 4 + 8 * device_most k + tasks * 5 → job_section s n tasks from at ≡ job_section s' n tasks from at
  unfolding job_section
  section_same n tasks from at few l m =
      let b : at < length s = omega (arith, a.long) in
      let b' : at < length s' = omega (arith, a.long') in
      let h = horizon_of s tasks from in
      let f = pair_same p s s' a 0 (omega arith) in
      rw (lt-leb _ _ b, lt-leb _ _ b', ← a.same at (omega arith), ← f, ← horizon_same s s' tasks from from f (tasks_alike tasks from l))
      (either (mixed tasks (pair_at s 0) (byte_at s at)) 11 (λ e. either (eqb h 0) 10 (λ _. either (ltb 4096 h) 10 (λ _. jobs_same n tasks from at h few l m e))))

  tasks_same : (n at : ℕ) → at ≤ 3 + 8 * device_most k → task_section s n at ≡ task_section s' n at
  unfolding task_section
  tasks_same n at l =
      let b : at < length s = omega (arith, a.long) in
      let b' : at < length s' = omega (arith, a.long') in
      rw (lt-leb _ _ b, lt-leb _ _ b', ← a.same at (omega arith))
      (either (ltb 8 (byte_at s at)) 6 (λ z. after_tasks (byte_at s at) (ltb-false 8 _ z)))
    where
      after_tasks : (tasks : ℕ) → tasks ≤ 8 →
          or_else (records_fault s (TaskRecords n) tasks (at + 1)) (job_section s n tasks (at + 1) (at + 1 + tasks * 5))
          ≡ or_else (records_fault s' (TaskRecords n) tasks (at + 1)) (job_section s' n tasks (at + 1) (at + 1 + tasks * 5))
      after_tasks tasks few =
          rw (records_same p s s' a (TaskRecords n) tasks (at + 1) (omega (arith, after_even 5 tasks (at + 1))), section_same n tasks (at + 1) (at + 1 + tasks * 5) few (omega arith) (omega arith))

  fault_same : fault_as k s ≡ fault_as k s'
  unfolding fault_as
  fault_same =
      let b : 3 ≤ length s = omega (arith, a.long) in
      let b' : 3 ≤ length s' = omega (arith, a.long') in
      rw (le-ltb _ _ b, le-ltb _ _ b', ← a.same 2 (omega arith))
      (either (ltb 8 (byte_at s 2)) 3 (λ z. after_devices (byte_at s 2) (ltb-false 8 _ z)))
    where
      after_devices : (n : ℕ) → n ≤ 8 →
          or_else (records_fault s (DeviceRecords k) n 3) (task_section s n (device_place k s n))
          ≡ or_else (records_fault s' (DeviceRecords k) n 3) (task_section s' n (device_place k s' n))
      after_devices n few =
          let most = place_most k s n few in
          let e : device_place k s n ≡ device_place k s' n = place_same p s s' a (DeviceRecords k) n 3 (omega arith) in
          rw (records_same p s s' a (DeviceRecords k) n 3 (omega arith), ← e, tasks_same n (device_place k s n) most)

  -- So they are refused alike.
  read_same : read_as k s ≡ read_as k s'
  read_same =
      let some : fault_as k s ≡ 0 → ⊥ = λ z. omega (arith, a.long, short_as k s _ (read_faultless k s (sym z))) in
      read_fault k s some ∙ ap refused fault_same ∙ sym (read_fault k s' (λ z. some (fault_same ∙ z)))

-- A mark and the bytes of the longest file of the kind are fewer than 232.
within : (k : Kind) → length (marker k) + (118 + 8 * device_most k) ≤ 232
within First = omega arith
within Second = omega arith
within Third = omega arith

kind_front : (s : List ℕ) → kind_of (take 232 s) ≡ kind_of s
unfolding kind_of
kind_front s = rw (get_or-take 232 s 0 0 (omega arith), get_or-take 232 s 1 0 (omega arith))

pub long_same : (s : List ℕ) → 232 ≤ length s → read_of s ≡ read_of (take 232 s)
unfolding read_of
long_same s l =
    let k = kind_of s in
    let m = length (marker k) in
    let alike : Alike (232 - m) (drop m s) (drop m (take 232 s)) = record {
      long = rw length-drop (omega arith);
      long' = rw (length-drop, length-take-le 232 s l) (omega arith);
      same = λ i h. rw (get_or-drop m s i 0, get_or-drop m (take 232 s) i 0) (sym (get_or-take 232 s (m + i) 0 (omega arith)));
    } in
    rw (kind_front s) (read_same k (232 - m) (drop m s) (drop m (take 232 s)) alike (omega (arith, within k)))
