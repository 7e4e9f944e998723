-- Tables as bytes come back: what is laid out is read as the tables again, and what is read as tables is laid out as the same bytes.
use mathlib.Core.Path.{◌≡◌, refl, sym, ap, ◌∙◌}
use mathlib.Core.List.{List, [], ◌∷◌, ◌++◌, append_assoc, append-nil}
use Prim.Native.Nat.{ℕ, zero, suc, ◌+◌, ◌-◌, ◌*◌, ◌<◌, ◌≤◌, min}
use native.Mathlib.Omega.{arith}
use native.Mathlib.Nat.{le_refl, min-eq_left}
use lib.ListN.{length, length-append, get_or-append}
use lib.Seq.{get_or-append-add}
use Rattle.base.specs.Bytes.{byte_at, pair_at}
use Rattle.base.specs.Lists.{up_to}
use Rattle.base.specs.Refusals.{after}
use Rattle.base.proofs.Arrays.{up_to_same, get_d_padded, get_d_up_to}
use Rattle.base.proofs.Records.{after_more, after_from_lem, after_even}
use Rattle.tables.specs.declared.Kind.{Kind}
use Rattle.tables.specs.declared.Kind.TheVariants.{First, Second, Third}
use Rattle.tables.specs.declared.Tables.{Tables}
use Rattle.tables.specs.declared.TableName.{TableName}
use Rattle.tables.specs.declared.TableName.TheVariants.{Devices, Tasks, Jobs}
use Rattle.tables.specs.Records.{device_at, device_size, device_bytes, told, task_at, task_bytes, job_at, job_bytes, blank_device, blank_task, blank_job}
use Rattle.tables.specs.Layout.{joined, device_in, task_in, job_in, count_in, record_in, counted, Bytes}
use Rattle.tables.proofs.Joining.{length_tasks, length_jobs}
use Rattle.tables.proofs.Parts.{joined_place, byte_joined, part, part_append, part_to, part_joined, part_cons, part_whole}
use Rattle.tables.proofs.Reading.{Stands, read_pair, read_device, read_size, read_task, read_job, pair_part, device_part, task_part, job_part}
use Rattle.table_bytes.specs.TableBytes.{kind_named, tasks_from, jobs_from, AreTables, tables_from, kind_byte, head_of, table_bytes, Few}

pub kind_back : (k : Kind) → kind_named (kind_byte k) ≡ k
kind_back First = refl
kind_back Second = refl
kind_back Third = refl

kind_known : (k : Kind) → (1 ≤ kind_byte k) × (kind_byte k ≤ 3)
kind_known First = omega arith
kind_known Second = omega arith
kind_known Third = omega arith

-- ---- reading what was laid out

module _ (T : Tables) where
  abbrev bytes : List ℕ
  bytes = table_bytes T

  abbrev head : List ℕ
  head = head_of T.kind T.horizon T.devices.count T.tasks.count T.jobs.count

  abbrev records : TableName → List ℕ
  records p = joined (record_in T p) (count_in T p)

  -- What stands before the records of a table, and after them.
  abbrev before : TableName → List ℕ
  before Devices = head
  before Tasks = head ++ records Devices
  before Jobs = head ++ (records Devices ++ records Tasks)

  abbrev behind : TableName → List ℕ
  behind Devices = records Tasks ++ records Jobs
  behind Tasks = records Jobs
  behind Jobs = []

  parted : (p : TableName) → table_bytes T ≡ before p ++ (records p ++ behind p)
  unfolding table_bytes
  parted Devices = refl
  parted Tasks = sym (append_assoc head (records Devices) (records Tasks ++ records Jobs))
  parted Jobs =
      ap (λ (l : List ℕ). head ++ l) (sym (append_assoc (records Devices) (records Tasks) (records Jobs)))
      ∙ sym (append_assoc head (records Devices ++ records Tasks) (records Jobs))
      ∙ ap (λ (l : List ℕ). (head ++ (records Devices ++ records Tasks)) ++ l) (sym (append-nil (records Jobs)))

  -- Record k of a table stands after those before it.
  stands : (p : TableName) (k : ℕ) → k < count_in T p → Stands (table_bytes T) (length (before p) + length (joined (record_in T p) k)) (record_in T p k)
  stands p k l i m =
      let g = record_in T p in
      let at = length (joined g k) + i in
      let e : length (before p) + length (joined g k) + i ≡ length (before p) + at = omega arith in
      rw (parted p, e)
      (get_or-append-add (before p) (records p ++ behind p) at 0
      ∙ get_or-append (records p) (behind p) 0 at (joined_place g (count_in T p) k i l m)
      ∙ byte_joined g (count_in T p) k i l m)

  -- The head.
  read_kind : byte_at bytes 0 ≡ kind_byte T.kind
  unfolding table_bytes
  read_kind = refl

  read_horizon : pair_at bytes 1 ≡ T.horizon
  unfolding table_bytes
  read_horizon = read_pair bytes 1 T.horizon refl refl

  read_counts : (pair_at bytes 3 ≡ T.devices.count) × (pair_at bytes 5 ≡ T.tasks.count) × (pair_at bytes 7 ≡ T.jobs.count)
  unfolding table_bytes
  read_counts = (
    read_pair bytes 3 T.devices.count refl refl,
    read_pair bytes 5 T.tasks.count refl refl,
    read_pair bytes 7 T.jobs.count refl refl,
  )

  device_place_lem : (k : ℕ) → k ≤ T.devices.count → after (device_size T.kind bytes) k 9 ≡ 9 + length (joined (record_in T Devices) k)
  unfolding joined
  device_place_lem zero h = refl
  device_place_lem (suc k) h =
      let at : after (device_size T.kind bytes) k 9 ≡ 9 + length (joined (record_in T Devices) k) = device_place_lem k (omega arith) in
      let size = read_size bytes (9 + length (joined (record_in T Devices) k)) T.kind (device_in T k) (stands Devices k (omega arith)) in
      after_more (device_size T.kind bytes) k 9 ∙ rw (at, size, length-append) (omega arith)

  module _ (few : Few T) where
    few_devices : min (pair_at bytes 3) 8 ≡ T.devices.count
    few_devices = rw read_counts.0 (min-eq_left few.devices)

    few_tasks : min (pair_at bytes 5) 8 ≡ T.tasks.count
    few_tasks = rw read_counts.1 (min-eq_left few.tasks)

    few_jobs : min (pair_at bytes 7) 16 ≡ T.jobs.count
    few_jobs = rw read_counts.2 (min-eq_left few.jobs)

    tasks_from_lem : tasks_from bytes ≡ length (before Tasks)
    tasks_from_lem =
        rw (read_kind, kind_back T.kind, few_devices)
        (device_place_lem T.devices.count (le_refl T.devices.count) ∙ sym (length-append head (records Devices)))

    jobs_from_lem : jobs_from bytes ≡ length (before Jobs)
    jobs_from_lem =
        rw (tasks_from_lem, few_tasks)
        (omega (arith, length-append head (records Devices), length-append head (records Devices ++ records Tasks), length-append (records Devices) (records Tasks), length_tasks T T.tasks.count))

    -- They are tables,
    pub are_tables : AreTables (table_bytes T)
    are_tables =
        record {
          kind = rw read_kind (kind_known T.kind);
          ends =
              rw (jobs_from_lem, few_jobs)
              (omega (
                arith,
                ap length (parted Jobs),
                length-append (before Jobs) (records Jobs ++ []),
                length-append (records Jobs) [],
                length_jobs T T.jobs.count,
              ));
        }

    read_devices : up_to (λ i. device_at T.kind bytes (after (device_size T.kind bytes) i 9)) T.devices.count ≡ up_to (λ k. told T.kind (device_in T k)) T.devices.count
    read_devices =
        up_to_same _ _ T.devices.count
        (λ k l. rw (device_place_lem k (omega arith)) (read_device bytes (9 + length (joined (record_in T Devices) k)) T.kind (device_in T k) (stands Devices k l)))

    read_tasks : up_to (λ i. task_at bytes (length (before Tasks) + i * 5)) T.tasks.count ≡ up_to (task_in T) T.tasks.count
    read_tasks =
        up_to_same _ _ T.tasks.count
        (λ k l. read_task bytes (length (before Tasks) + k * 5) (task_in T k) (rw (length_tasks T k) at (stands Tasks k l)))

    read_jobs : up_to (λ j. job_at bytes (length (before Jobs) + j * 7)) T.jobs.count ≡ up_to (job_in T) T.jobs.count
    read_jobs =
        up_to_same _ _ T.jobs.count
        (λ k l. read_job bytes (length (before Jobs) + k * 7) (job_in T k) (rw (length_jobs T k) at (stands Jobs k l)))

    -- and read as those that were laid out, but for what stands beyond a count and what the kind does not tell.
    pub tables_back : tables_from (table_bytes T) ≡ counted T
    unfolding counted
    tables_back =
        rw (jobs_from_lem, tasks_from_lem, few_devices, few_tasks, few_jobs, read_kind, kind_back T.kind, read_horizon, read_counts.0, read_counts.1, read_counts.2, read_devices, read_tasks, read_jobs)

-- ---- laying out what was read

kind_named_lem : (n : ℕ) → 1 ≤ n → n ≤ 3 → kind_byte (kind_named n) ≡ n
kind_named_lem zero l h = absurd (omega arith)
kind_named_lem (suc zero) l h = refl
kind_named_lem (suc (suc zero)) l h = refl
kind_named_lem (suc (suc (suc zero))) l h = refl
kind_named_lem (suc (suc (suc (suc n)))) l h = absurd (omega arith)

rows : {a a' b b' c c' d d' : List ℕ} → a ≡ a' → b ≡ b' → c ≡ c' → d ≡ d' → a ++ (b ++ (c ++ d)) ≡ a' ++ (b' ++ (c' ++ d'))
rows f g h i = cc (f, g, h, i)

headed : {x x' : ℕ} {l l' : List ℕ} → x ≡ x' → l ≡ l' → x ∷ l ≡ x' ∷ l'
headed e f = cc (e, f)

module _ (s : List ℕ) (tables : AreTables s) (b : Bytes s) (few : Few (tables_from s)) where
  abbrev T : Tables
  T = tables_from s

  abbrev k : Kind
  k = kind_named (byte_at s 0)

  head_part : head_of k (pair_at s 1) (pair_at s 3) (pair_at s 5) (pair_at s 7) ≡ part s 0 9
  head_part =
      headed (kind_named_lem (byte_at s 0) tables.kind.0 tables.kind.1) (rows (pair_part s 1 b) (pair_part s 3 b) (pair_part s 5 b) (pair_part s 7 b))
      ∙ ap (λ (l : List ℕ). byte_at s 0 ∷ (part s 1 2 ++ (part s 3 2 ++ l))) (part_append s 5 2 2)
      ∙ ap (λ (l : List ℕ). byte_at s 0 ∷ (part s 1 2 ++ l)) (part_append s 3 2 4)
      ∙ ap (λ (l : List ℕ). byte_at s 0 ∷ l) (part_append s 1 2 6)
      ∙ part_cons s 0 8

  devices_held_lem : min (pair_at s 3) 8 ≡ pair_at s 3
  devices_held_lem = min-eq_left few.devices

  tasks_held_lem : min (pair_at s 5) 8 ≡ pair_at s 5
  tasks_held_lem = min-eq_left few.tasks

  jobs_held_lem : min (pair_at s 7) 16 ≡ pair_at s 7
  jobs_held_lem = min-eq_left few.jobs

  device_is : (i : ℕ) → i < pair_at s 3 → record_in T Devices i ≡ part s (after (device_size k s) i 9) (device_size k s (after (device_size k s) i 9))
  device_is i l =
      ap (device_bytes k) (get_d_padded 8 blank_device _ i ∙ get_d_up_to _ _ i blank_device (rw devices_held_lem l))
      ∙ device_part s (after (device_size k s) i 9) b k

  task_is : (i : ℕ) → i < pair_at s 5 → record_in T Tasks i ≡ part s (after (λ at. 5) i (tasks_from s)) 5
  task_is i l =
      rw (after_even 5 i (tasks_from s))
      (ap task_bytes (get_d_padded 8 blank_task _ i ∙ get_d_up_to _ _ i blank_task (rw tasks_held_lem l)) ∙ task_part s (tasks_from s + i * 5) b)

  job_is : (i : ℕ) → i < pair_at s 7 → record_in T Jobs i ≡ part s (after (λ at. 7) i (jobs_from s)) 7
  job_is i l =
      rw (after_even 7 i (jobs_from s))
      (ap job_bytes (get_d_padded 16 blank_job _ i ∙ get_d_up_to _ _ i blank_job (rw jobs_held_lem l)) ∙ job_part s (jobs_from s + i * 7) b)

  devices_part : joined (record_in T Devices) (pair_at s 3) ≡ part s 9 (tasks_from s - 9)
  devices_part =
      part_joined s (record_in T Devices) (device_size k s) 9 (pair_at s 3) device_is
      ∙ ap (λ (n : ℕ). part s 9 (after (device_size k s) n 9 - 9)) (sym devices_held_lem)

  tasks_part : joined (record_in T Tasks) (pair_at s 5) ≡ part s (tasks_from s) (jobs_from s - tasks_from s)
  tasks_part =
      let long : after (λ at. 5) (pair_at s 5) (tasks_from s) - tasks_from s ≡ jobs_from s - tasks_from s = omega (arith, after_even 5 (pair_at s 5) (tasks_from s), tasks_held_lem) in
      part_joined s (record_in T Tasks) (λ at. 5) (tasks_from s) (pair_at s 5) task_is ∙ ap (part s (tasks_from s)) long

  jobs_part : joined (record_in T Jobs) (pair_at s 7) ≡ part s (jobs_from s) (length s - jobs_from s)
  jobs_part =
      let long : after (λ at. 7) (pair_at s 7) (jobs_from s) - jobs_from s ≡ length s - jobs_from s = omega (arith, after_even 7 (pair_at s 7) (jobs_from s), jobs_held_lem, tables.ends) in
      part_joined s (record_in T Jobs) (λ at. 7) (jobs_from s) (pair_at s 7) job_is ∙ ap (part s (jobs_from s)) long

  -- What is read as tables is laid out as the same bytes.
  pub bytes_back : table_bytes (tables_from s) ≡ s
  unfolding table_bytes
  bytes_back =
      let from : 9 ≤ tasks_from s = after_from_lem (device_size k s) (min (pair_at s 3) 8) 9 in
      let on : tasks_from s ≤ jobs_from s = omega arith in
      let ends : jobs_from s ≤ length s = omega (arith, tables.ends) in
      let whole : 9 + (length s - 9) ≡ length s = omega arith in
      rows head_part devices_part tasks_part jobs_part
      ∙ ap (λ (l : List ℕ). part s 0 9 ++ (part s 9 (tasks_from s - 9) ++ l)) (part_to s (tasks_from s) (jobs_from s) (length s) on ends)
      ∙ ap (λ (l : List ℕ). part s 0 9 ++ l) (part_to s 9 (tasks_from s) (length s) from (omega arith))
      ∙ part_append s 0 9 (length s - 9)
      ∙ ap (part s 0) whole
      ∙ part_whole s
