-- Reading the layout of tables gives the tables again, and the layout of the tables of a whole file is the file; and so do the bytes with the mark of the kind.
use mathlib.Core.Path.{◌≡◌, refl, ap, ◌∙◌}
use mathlib.Core.Bool.{Bool, true, false, cond}
use mathlib.Core.List.{List, [], ◌∷◌, ◌++◌}
use Prim.Native.Nat.{ℕ, zero, suc, ◌+◌, ◌-◌, ◌*◌, ◌<◌, ◌≤◌}
use native.Mathlib.Omega.{arith}
use native.Mathlib.Nat.{le_refl}
use lib.Dec.{eqb}
use lib.ListN.{length, drop, length-append}
use lib.Seq.{get_or-drop}
use borrow.Author.Tests.{eqb-true}
use Rattle.base.specs.Bytes.{byte_at, pair_at, pair_bytes}
use Rattle.base.specs.Lists.{up_to}
use Rattle.base.specs.Refusals.{after}
use Rattle.base.proofs.Arrays.{up_to_same, get_d_padded, get_d_up_to}
use Rattle.base.proofs.Records.{after_more, after_from_lem, after_even}
use Rattle.tables.specs.declared.Kind.{Kind}
use Rattle.tables.specs.declared.Kind.TheVariants.{First, Second, Third}
use Rattle.tables.specs.declared.DeviceRecord.{DeviceRecord}
use Rattle.tables.specs.declared.Tables.{Tables}
use Rattle.tables.specs.declared.TableName.{TableName}
use Rattle.tables.specs.declared.TableName.TheVariants.{Devices, Tasks, Jobs}
use Rattle.tables.specs.Records.{device_at, device_size, task_at, job_at, device_bytes, task_bytes, job_bytes, told, blank_device, blank_task, blank_job}
use Rattle.tables.specs.Layout.{marker, kind_of, body_of, joined, device_in, task_in, job_in, count_in, record_in, section_of, layout_of, bytes_of, device_place, tasks_place, task_count, jobs_place, tables_as, tables_of, counted, Bytes}
use Rattle.tables.specs.inside.Held.{Whole}
use Rattle.tables.proofs.Levels.{powers_told}
use Rattle.tables.proofs.Joining.{length_tasks, length_jobs, length_section}
use Rattle.tables.proofs.Parts.{place_in, count_is, record_byte, part, part_append, part_to, part_joined, part_cons, part_whole}
use Rattle.tables.proofs.Reading.{Stands, read_pair, read_device, read_size, read_task, read_job, pair_part, device_part, task_part, job_part}

-- ---- reading what was laid out

module _ (T : Tables) where
  abbrev file : List ℕ
  file = layout_of T

  abbrev devices : ℕ → List ℕ
  devices = record_in T Devices

  pub read_horizon : pair_at file 0 ≡ T.horizon
  unfolding layout_of
  read_horizon = read_pair file 0 T.horizon refl refl

  -- Each device's record stands where the reader looks for it.
  stands : (k : ℕ) → k < T.devices.count → Stands file (3 + length (joined devices k)) (devices k)
  stands k l i m = record_byte T Devices k i l m

  device_place_lem : (k : ℕ) → k ≤ T.devices.count → device_place T.kind file k ≡ 3 + length (joined devices k)
  unfolding joined
  device_place_lem zero h = refl
  device_place_lem (suc k) h =
      let at : device_place T.kind file k ≡ 3 + length (joined devices k) = device_place_lem k (omega arith) in
      let size : device_size T.kind file (3 + length (joined devices k)) ≡ length (devices k) = read_size file (3 + length (joined devices k)) T.kind (device_in T k) (stands k (omega arith)) in
      after_more (device_size T.kind file) k 3 ∙ rw (at, size, length-append) (omega arith)

  pub tasks_place_lem : device_place T.kind file T.devices.count ≡ place_in T Tasks
  tasks_place_lem = omega (arith, device_place_lem T.devices.count (le_refl T.devices.count), length_section T Devices)

  pub jobs_place_lem : place_in T Tasks + 1 + T.tasks.count * 5 ≡ place_in T Jobs
  jobs_place_lem = omega (arith, length_section T Tasks, length_tasks T T.tasks.count)

  read_devices : up_to (λ k. device_at T.kind file (device_place T.kind file k)) T.devices.count ≡ up_to (λ k. told T.kind (device_in T k)) T.devices.count
  read_devices =
      up_to_same _ _ T.devices.count
      (λ k l. rw (device_place_lem k (omega arith)) (read_device file (3 + length (joined devices k)) T.kind (device_in T k) (stands k l)))

  read_tasks : up_to (λ i. task_at file (place_in T Tasks + 1 + i * 5)) T.tasks.count ≡ up_to (task_in T) T.tasks.count
  read_tasks =
      up_to_same _ _ T.tasks.count
      (λ k l. read_task file (place_in T Tasks + 1 + k * 5) (task_in T k) (λ i m. rw (length_tasks T k) at (record_byte T Tasks k i l m)))

  read_jobs : up_to (λ j. job_at file (place_in T Jobs + 1 + j * 7)) T.jobs.count ≡ up_to (job_in T) T.jobs.count
  read_jobs =
      up_to_same _ _ T.jobs.count
      (λ k l. read_job file (place_in T Jobs + 1 + k * 7) (job_in T k) (λ i m. rw (length_jobs T k) at (record_byte T Jobs k i l m)))

  pub read_back : tables_as T.kind (layout_of T) ≡ counted T
  unfolding tables_as counted
  read_back =
      rw (count_is T Devices, tasks_place_lem, count_is T Tasks, jobs_place_lem, count_is T Jobs, read_horizon, read_devices, read_tasks, read_jobs)

-- What stands beyond a count is not laid out, nor what the kind does not tell.
joined_same : (f g : ℕ → List ℕ) (n : ℕ) → ((k : ℕ) → k < n → f k ≡ g k) → joined f n ≡ joined g n
unfolding joined
joined_same f g zero h = refl
joined_same f g (suc n) h = rw (joined_same f g n (λ k l. h k (omega arith)), h n (omega arith))

bytes_told : (k : Kind) (d : DeviceRecord) → device_bytes k (told k d) ≡ device_bytes k d
bytes_told First d = refl
bytes_told Second d = refl
bytes_told Third d =
    ap (λ (l : List ℕ). d.wake ∷ pair_bytes d.pw ++ (pair_bytes d.pwake ++ d.levels ∷ l)) (powers_told d.levels d.ps d.ps2 d.ps3 d.ps4)

module _ (T : Tables) where
  record_counted : (p : TableName) (k : ℕ) → k < count_in T p → record_in (counted T) p k ≡ record_in T p k
  unfolding counted
  record_counted Devices k l = ap (device_bytes T.kind) (get_d_padded 8 blank_device _ k ∙ get_d_up_to _ _ k blank_device l) ∙ bytes_told T.kind (device_in T k)
  record_counted Tasks k l = ap task_bytes (get_d_padded 8 blank_task _ k ∙ get_d_up_to _ _ k blank_task l)
  record_counted Jobs k l = ap job_bytes (get_d_padded 16 blank_job _ k ∙ get_d_up_to _ _ k blank_job l)

  count_counted : (p : TableName) → count_in (counted T) p ≡ count_in T p
  unfolding counted
  count_counted Devices = refl
  count_counted Tasks = refl
  count_counted Jobs = refl

  section_counted : (p : TableName) → section_of (counted T) p ≡ section_of T p
  unfolding section_of
  section_counted p = rw (count_counted p, joined_same (record_in (counted T) p) (record_in T p) (count_in T p) (record_counted p))

  pub kind_counted : (counted T).kind ≡ T.kind
  unfolding counted
  kind_counted = refl

  horizon_counted : (counted T).horizon ≡ T.horizon
  unfolding counted
  horizon_counted = refl

  pub layout_counted : layout_of (counted T) ≡ layout_of T
  unfolding layout_of
  layout_counted = cc (horizon_counted, section_counted Devices, section_counted Tasks, section_counted Jobs)

-- ---- laying out what was read

module _ (k : Kind) (s : List ℕ) (ok : Whole k s) (b : Bytes s) where
  abbrev T : Tables
  T = tables_as k s

  -- What each section is in the file: its records' sizes, and the places of its count and of its end.
  abbrev sizes : TableName → ℕ → ℕ
  sizes Devices at = device_size k s at
  sizes Tasks at = 5
  sizes Jobs at = 7

  abbrev place : TableName → ℕ
  place Devices = 2
  place Tasks = tasks_place k s
  place Jobs = jobs_place k s

  record_part : (p : TableName) (n : ℕ) → n < count_in T p → record_in T p n ≡ part s (after (sizes p) n (place p + 1)) (sizes p (after (sizes p) n (place p + 1)))
  unfolding tables_as
  record_part Devices n l = ap (device_bytes k) (get_d_padded 8 blank_device _ n ∙ get_d_up_to _ _ n blank_device l) ∙ device_part s (device_place k s n) b k
  record_part Tasks n l = rw (after_even 5 n (tasks_place k s + 1)) (ap task_bytes (get_d_padded 8 blank_task _ n ∙ get_d_up_to _ _ n blank_task l) ∙ task_part s (tasks_place k s + 1 + n * 5) b)
  record_part Jobs n l = rw (after_even 7 n (jobs_place k s + 1)) (ap job_bytes (get_d_padded 16 blank_job _ n ∙ get_d_up_to _ _ n blank_job l) ∙ job_part s (jobs_place k s + 1 + n * 7) b)

  count_at_lem : (p : TableName) → count_in T p ≡ byte_at s (place p)
  unfolding tables_as
  count_at_lem Devices = refl
  count_at_lem Tasks = refl
  count_at_lem Jobs = refl

  section_part : (p : TableName) (to : ℕ) → after (sizes p) (byte_at s (place p)) (place p + 1) ≡ to → section_of T p ≡ part s (place p) (to - place p)
  unfolding section_of
  section_part p to e =
      let n = byte_at s (place p) in
      let low : place p + 1 ≤ after (sizes p) n (place p + 1) = after_from_lem (sizes p) n (place p + 1) in
      let long : to - place p ≡ 1 + (after (sizes p) n (place p + 1) - (place p + 1)) = omega arith in
      rw (long, ← part_cons s (place p) (after (sizes p) n (place p + 1) - (place p + 1)), count_at_lem p)
      (ap (λ (l : List ℕ). n ∷ l) (part_joined s (record_in T p) (sizes p) (place p + 1) n (λ i l. record_part p i (rw (count_at_lem p) l))))

  pub write_back : layout_of (tables_as k s) ≡ s
  unfolding layout_of tables_as
  write_back =
      let d = tasks_place k s in
      let j = jobs_place k s in
      let ends = ok.ends in
      let low : 3 ≤ d = after_from_lem (device_size k s) (byte_at s 2) 3 in
      let D = section_part Devices d refl in
      let K = section_part Tasks j (after_even 5 (task_count k s) (d + 1)) in
      let J = section_part Jobs (length s) (after_even 7 (byte_at s j) (j + 1) ∙ ends) in
      let e : 2 + (length s - 2) ≡ length s = omega arith in
      rw (D, K, J, part_to s d j (length s) (omega arith) (omega arith), part_to s 2 d (length s) (omega arith) (omega arith))
      (ap (λ (l : List ℕ). l ++ part s 2 (length s - 2)) (pair_part s 0 b) ∙ part_append s 0 2 (length s - 2) ∙ ap (part s 0) e ∙ part_whole s)

-- ---- with the mark of the kind

-- By the tests of its two bytes.
abbrev kind_by : (a b c : Bool) → Kind
kind_by a b c = cond a (cond b Second (cond c Third First)) First

-- A file is its mark and what follows it.
pub mark_front : (s : List ℕ) → marker (kind_of s) ++ body_of s ≡ s
unfolding kind_of
mark_front [] = refl
mark_front (x ∷ []) = go (eqb x 255)
  where
    go : (a : Bool) → marker (cond a First First) ++ drop (length (marker (cond a First First))) (x ∷ []) ≡ x ∷ []
    go true = refl
    go false = refl
mark_front (x ∷ y ∷ s) = go (eqb x 255) (eqb y 2) (eqb y 3) refl refl refl
  where
    go : (a b c : Bool) → eqb x 255 ≡ a → eqb y 2 ≡ b → eqb y 3 ≡ c → marker (kind_by a b c) ++ drop (length (marker (kind_by a b c))) (x ∷ y ∷ s) ≡ x ∷ y ∷ s
    go true true c e f g = rw (eqb-true x 255 e, eqb-true y 2 f)
    go true false true e f g = rw (eqb-true x 255 e, eqb-true y 3 g)
    go true false false e f g = refl
    go false b c e f g = refl

pub mark_fits : (s : List ℕ) → length (marker (kind_of s)) ≤ length s
mark_fits s = omega (arith, length-append (marker (kind_of s)) (body_of s), ap length (mark_front s))

pub body_bytes : (s : List ℕ) → Bytes s → Bytes (body_of s)
body_bytes s b i = rw (get_or-drop (length (marker (kind_of s))) s i 0) (b (length (marker (kind_of s)) + i))

-- The kind is read off the mark. Only what is laid out for the first kind can seem to have one: where its horizon field is FF02 or FF03.
marked : (k : Kind) (s : List ℕ) → (k ≡ First → kind_of s ≡ First) → kind_of (marker k ++ s) ≡ k
unfolding kind_of
marked First s h = h refl
marked Second s h = refl
marked Third s h = refl

pub unmarked : (k : Kind) (s : List ℕ) → drop (length (marker k)) (marker k ++ s) ≡ s
unmarked First s = refl
unmarked Second s = refl
unmarked Third s = refl

same_tables : {k k' : Kind} {s s' : List ℕ} → k ≡ k' → s ≡ s' → tables_as k s ≡ tables_as k' s'
same_tables e f = cc (e, f)

module _ (T : Tables) (plain : T.kind ≡ First → kind_of (layout_of T) ≡ First) where
  pub kind_back : kind_of (bytes_of T) ≡ T.kind
  unfolding bytes_of
  kind_back = marked T.kind (layout_of T) plain

  pub body_back : body_of (bytes_of T) ≡ layout_of T
  unfolding bytes_of
  body_back = rw kind_back (unmarked T.kind (layout_of T))

  pub tables_back : tables_of (bytes_of T) ≡ counted T
  tables_back = same_tables kind_back body_back ∙ read_back T

-- And the bytes of the tables of a whole file are the file.
kind_listed : (k : Kind) (s : List ℕ) → (tables_as k s).kind ≡ k
unfolding tables_as
kind_listed k s = refl

pub bytes_back : (s : List ℕ) → Whole (kind_of s) (body_of s) → Bytes s → bytes_of (tables_of s) ≡ s
unfolding bytes_of
bytes_back s ok b =
    ap (λ (l : List ℕ). marker (tables_of s).kind ++ l) (write_back (kind_of s) (body_of s) ok (body_bytes s b))
    ∙ ap (λ (k : Kind). marker k ++ body_of s) (kind_listed (kind_of s) (body_of s))
    ∙ mark_front s
