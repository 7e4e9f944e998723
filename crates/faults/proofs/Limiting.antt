-- For callers that lay tables out: tables whose counts are limited to one above the limits of a file are refused at the place at which they were before.
use mathlib.Core.Path.{◌≡◌, refl, sym, ap, ◌∙◌}
use mathlib.Core.Bool.{Bool, true, false, cond}
use mathlib.Core.List.{List}
use mathlib.Core.Logic.{⊎_elim}
use Prim.Native.Nat.{ℕ, zero, suc, ◌+◌, ◌*◌, ◌<◌, ◌≤◌}
use native.Mathlib.Omega.{arith}
use native.Mathlib.Decide.{dec_lt}
use native.Mathlib.Nat.{eq-zero-or-pos}
use lib.ListN.{length}
use lib.Dec.{ltb, eqb}
use borrow.Author.Tests.{lt-ltb, le-ltb, lt-leb, eq-eqb, ne_eqb}
use Rattle.base.specs.Bytes.{byte_at, pair_at}
use Rattle.base.specs.Refusals.{after}
use Rattle.base.proofs.Records.{after_from_lem, after_even}
use Rattle.tables.specs.declared.Kind.{Kind}
use Rattle.tables.specs.declared.Tables.{Tables}
use Rattle.tables.specs.declared.TableName.{TableName}
use Rattle.tables.specs.declared.TableName.TheVariants.{Devices, Tasks, Jobs}
use Rattle.tables.specs.Layout.{record_in, layout_of, tasks_place}
use Rattle.tables.specs.inside.Held.{limited}
use Rattle.tables.proofs.Back.{read_horizon, tasks_place_lem, jobs_place_lem}
use Rattle.tables.proofs.Joining.{record_limited, length_layout, length_section}
use Rattle.tables.proofs.Parts.{place_in, count_is, front_long, tasks_front, jobs_front, tasks_at_same, jobs_at_same}
use Rattle.request.specs.declared.Section.{Section}
use Rattle.request.specs.declared.Section.TheVariants.{DeviceRecords, TaskRecords}
use Rattle.request.specs.Format.{size_of, horizon_of, mixed, count_of}
use Rattle.request.proofs.Alike.{Alike, size_same, record_same}
use Rattle.request.proofs.Limiting.{or_true, many_jobs, limited_same}
use Rattle.faults.specs.declared.Place.TheVariants.{DeviceCount, TaskCount, JobCount}
use Rattle.faults.specs.Places.{Judged, place_at, called_for, record_place}
use Rattle.faults.specs.inside.Walk.{or_next, records_walk, jobs_walk, job_walk, task_walk, walk}

-- ---- the records of two files that begin alike

module _ (mark p : ℕ) (s s' : List ℕ) (a : Alike p s s') where
  place_same : (k : Section) (i at : ℕ) → at + size_of s k at ≤ p → record_place mark s k i at ≡ record_place mark s' k i at
  unfolding record_place called_for
  place_same k i at h = rw (record_same p s s' a k at h, size_same p s s' a k at h)

  pub walk_same : (k : Section) (n i at : ℕ) → after (size_of s k) n at ≤ p → records_walk mark s k n i at ≡ records_walk mark s' k n i at
  unfolding records_walk
  walk_same k zero i at h = refl
  walk_same k (suc n) i at h =
      let one : at + size_of s k at ≤ p = omega (arith, after_from_lem (size_of s k) n (at + size_of s k at)) in
      rw (place_same k i at one, walk_same k n (suc i) (at + size_of s k at) h, size_same p s s' a k at one)

-- ---- a count above its limit decides, and one within it goes on

module _ (mark : ℕ) where
  over_devices : (k : Kind) (s : List ℕ) → 3 ≤ length s → 8 < byte_at s 2 → walk mark k s ≡ place_at mark DeviceCount 2 3 3
  unfolding walk
  over_devices k s h l = let two : 2 ≤ length s = omega arith in rw (le-ltb (length s) 2 two, le-ltb (length s) 3 h, lt-ltb 8 (byte_at s 2) l)

  on_devices : (k : Kind) (s : List ℕ) → 3 ≤ length s → byte_at s 2 ≤ 8
      → walk mark k s ≡ or_next (records_walk mark s (DeviceRecords k) (byte_at s 2) 0 3) (task_walk mark s (byte_at s 2) (tasks_place k s))
  unfolding walk
  on_devices k s h l = let two : 2 ≤ length s = omega arith in rw (le-ltb (length s) 2 two, le-ltb (length s) 3 h, le-ltb 8 (byte_at s 2) l)

  over_tasks : (s : List ℕ) (n at : ℕ) → at < length s → 8 < byte_at s at → task_walk mark s n at ≡ place_at mark TaskCount at (at + 1) 6
  unfolding task_walk
  over_tasks s n at h l = rw (lt-leb (length s) at h, lt-ltb 8 (byte_at s at) l)

  on_tasks : (s : List ℕ) (n at : ℕ) → at < length s → byte_at s at ≤ 8
      → task_walk mark s n at ≡ or_next (records_walk mark s (TaskRecords n) (byte_at s at) 0 (at + 1)) (job_walk mark s n (byte_at s at) (at + 1) (at + 1 + byte_at s at * 5))
  unfolding task_walk
  on_tasks s n at h l = rw (lt-leb (length s) at h, le-ltb 8 (byte_at s at) l)

  over_jobs : (s : List ℕ) (n tasks from at : ℕ) → at < length s → 16 < byte_at s at
      → job_walk mark s n tasks from at ≡ place_at mark JobCount at (at + 1) (many_jobs tasks (pair_at s 0))
  unfolding job_walk jobs_walk mixed count_of horizon_of
  over_jobs s n tasks from at h l =
      let some : eqb (byte_at s at) 0 ≡ false = ne_eqb (byte_at s at) 0 (λ z. omega arith) in
      ⊎_elim
      (λ z. rw (lt-leb (length s) at h, eq-eqb tasks 0 z, lt-ltb 16 (byte_at s at) l) (many (pair_at s 0)))
      (λ p. rw (lt-leb (length s) at h, ne_eqb tasks 0 (λ z. omega arith), some, or_true (eqb (pair_at s 0) 0)))
      (eq-zero-or-pos tasks)
    where
      -- The field is judged before the count.
      many : (field : ℕ) → cond (eqb field 0) (place_at mark JobCount at (at + 1) 10) (cond (ltb 4096 field) (place_at mark JobCount at (at + 1) 10) (place_at mark JobCount at (at + 1) 12))
          ≡ place_at mark JobCount at (at + 1) (cond (eqb field 0) 10 (cond (ltb 4096 field) 10 12))
      many field = go (eqb field 0) (ltb 4096 field)
        where
          go : (b c : Bool) → cond b (place_at mark JobCount at (at + 1) 10) (cond c (place_at mark JobCount at (at + 1) 10) (place_at mark JobCount at (at + 1) 12))
              ≡ place_at mark JobCount at (at + 1) (cond b 10 (cond c 10 12))
          go true c = refl
          go false true = refl
          go false false = refl

-- ---- the walk of the layout of tables, by their counts

module _ (mark : ℕ) (T : Tables) where
  abbrev file : List ℕ
  file = layout_of T

  abbrev devices_walk : Judged
  devices_walk = records_walk mark file (DeviceRecords T.kind) T.devices.count 0 3

  abbrev tasks_walk : Judged
  tasks_walk = records_walk mark file (TaskRecords T.devices.count) T.tasks.count 0 (place_in T Tasks + 1)

  head : 3 ≤ length file
  head = omega (arith, length_layout T, length_section T Devices)

  walk_over : 8 < T.devices.count → walk mark T.kind file ≡ place_at mark DeviceCount 2 3 3
  walk_over l = over_devices mark T.kind file head (rw (count_is T Devices) l)

  walk_on : T.devices.count ≤ 8 → walk mark T.kind file ≡ or_next devices_walk (task_walk mark file T.devices.count (place_in T Tasks))
  walk_on l = rw (count_is T Devices, tasks_place_lem T) at (on_devices mark T.kind file head (rw (count_is T Devices) l))

  tasks_over : (n : ℕ) → 8 < T.tasks.count → task_walk mark file n (place_in T Tasks) ≡ place_at mark TaskCount (place_in T Tasks) (place_in T Tasks + 1) 6
  tasks_over n l = over_tasks mark file n (place_in T Tasks) (front_long T Tasks) (rw (count_is T Tasks) l)

  tasks_on : (n : ℕ) → T.tasks.count ≤ 8
      → task_walk mark file n (place_in T Tasks)
      ≡ or_next (records_walk mark file (TaskRecords n) T.tasks.count 0 (place_in T Tasks + 1)) (job_walk mark file n T.tasks.count (place_in T Tasks + 1) (place_in T Jobs))
  tasks_on n l = rw (count_is T Tasks, jobs_place_lem T) at (on_tasks mark file n (place_in T Tasks) (front_long T Tasks) (rw (count_is T Tasks) l))

  jobs_over : (n from : ℕ) → 16 < T.jobs.count
      → job_walk mark file n T.tasks.count from (place_in T Jobs) ≡ place_at mark JobCount (place_in T Jobs) (place_in T Jobs + 1) (many_jobs T.tasks.count T.horizon)
  jobs_over n from l =
      rw (read_horizon T) at (over_jobs mark file n T.tasks.count from (place_in T Jobs) (front_long T Jobs) (rw (count_is T Jobs) l))

  walk_at_tasks : T.devices.count ≤ 8 → 8 < T.tasks.count
      → walk mark T.kind file ≡ or_next devices_walk (place_at mark TaskCount (place_in T Tasks) (place_in T Tasks + 1) 6)
  walk_at_tasks d k = rw (tasks_over T.devices.count k) at (walk_on d)

  walk_at_jobs : T.devices.count ≤ 8 → T.tasks.count ≤ 8 → 16 < T.jobs.count
      → walk mark T.kind file ≡ or_next devices_walk (or_next tasks_walk (place_at mark JobCount (place_in T Jobs) (place_in T Jobs + 1) (many_jobs T.tasks.count T.horizon)))
  walk_at_jobs d k j = rw (tasks_on T.devices.count k, jobs_over T.devices.count (place_in T Tasks + 1) j) at (walk_on d)

-- The same place, where the first count above its limit is above it in both.
module _
    (mark : ℕ) (T U : Tables) (kind : T.kind ≡ U.kind) (h : T.horizon ≡ U.horizon) (r : (p : TableName) → record_in T p ≡ record_in U p)
    (d : T.devices.count ≡ U.devices.count) (few : T.devices.count ≤ 8)
  where
    same_at_tasks : 8 < T.tasks.count → 8 < U.tasks.count → walk mark T.kind (layout_of T) ≡ walk mark U.kind (layout_of U)
    same_at_tasks k k' =
        let n = T.devices.count in
        let q = tasks_at_same T U h r d in
        let a : Alike (place_in T Tasks) (layout_of T) (layout_of U) = record { long = omega (arith, front_long T Tasks); long' = omega (arith, front_long U Tasks, q); same = tasks_front T U h r d } in
        let e = walk_same mark (place_in T Tasks) (layout_of T) (layout_of U) a (DeviceRecords T.kind) n 0 3 (omega (arith, tasks_place_lem T)) in
        let f = walk_at_tasks mark T few k in
        let g = walk_at_tasks mark U (omega arith) k' in
        cc

    same_at_jobs : T.tasks.count ≡ U.tasks.count → T.tasks.count ≤ 8 → 16 < T.jobs.count → 16 < U.jobs.count
        → walk mark T.kind (layout_of T) ≡ walk mark U.kind (layout_of U)
    same_at_jobs t few_tasks j j' =
        let n = T.devices.count in
        let k = T.tasks.count in
        let q = tasks_at_same T U h r d in
        let q' = jobs_at_same T U h r d t in
        let a : Alike (place_in T Jobs) (layout_of T) (layout_of U) = record { long = omega (arith, front_long T Jobs); long' = omega (arith, front_long U Jobs, q'); same = jobs_front T U h r d t } in
        let e = walk_same mark (place_in T Jobs) (layout_of T) (layout_of U) a (DeviceRecords T.kind) n 0 3 (omega (arith, tasks_place_lem T)) in
        let e' = walk_same mark (place_in T Jobs) (layout_of T) (layout_of U) a (TaskRecords n) k 0 (place_in T Tasks + 1) (omega (arith, after_even 5 k (place_in T Tasks + 1), jobs_place_lem T)) in
        let f = walk_at_jobs mark T few few_tasks j in
        let g = walk_at_jobs mark U (omega arith) (omega arith) j' in
        cc

-- ---- tables whose counts are cut

pub walk_limited : (mark : ℕ) (T : Tables) → walk mark (limited T).kind (layout_of (limited T)) ≡ walk mark T.kind (layout_of T)
unfolding limited
walk_limited mark T =
    elim (dec_lt 8 T.devices.count) [
      | yes d ↦ walk_over mark (limited T) (omega arith) ∙ sym (walk_over mark T d)
      | no d ↦
          elim (dec_lt 8 T.tasks.count) [
            | yes k ↦ same_at_tasks mark (limited T) T refl refl (record_limited T) (omega arith) (omega arith) (omega arith) k
            | no k ↦
                elim (dec_lt 16 T.jobs.count) [
                  | yes j ↦ same_at_jobs mark (limited T) T refl refl (record_limited T) (omega arith) (omega arith) (omega arith) (omega arith) (omega arith) j
                  | no j ↦ ap (λ (U : Tables). walk mark U.kind (layout_of U)) (limited_same T (omega arith) (omega arith) (omega arith))
                ]
          ]
    ]
