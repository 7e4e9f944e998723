-- Refusals 1 and 2, for bytes that are missing or left over, never come from tables (rule 52): what is laid out for them is all there, with nothing after it.
use mathlib.Core.Path.{◌≡◌}
use mathlib.Core.Bool.{Bool, true}
use mathlib.Core.List.{List, [], ◌∷◌}
use Prim.Native.Nat.{ℕ, zero, suc, ◌+◌, ◌-◌, ◌*◌, ◌≤◌}
use native.Mathlib.Omega.{arith}
use lib.Dec.{eqb, ltb, leb}
use lib.ListN.{length}
use borrow.Author.Tests.{ltb-true, leb-true}
use Rattle.base.specs.Bytes.{byte_at, pair_at}
use Rattle.base.specs.Refusals.{Refusal, first_that, or_else, after, first_of}
use Rattle.base.proofs.Cases.{cond_cases}
use Rattle.base.proofs.Records.{after_from_lem, after_even}
use Rattle.tables.specs.declared.Kind.{Kind}
use Rattle.tables.specs.declared.Kind.TheVariants.{First, Second, Third}
use Rattle.tables.specs.declared.Tables.{Tables}
use Rattle.tables.specs.declared.TableName.TheVariants.{Devices, Tasks, Jobs}
use Rattle.tables.specs.declared.DeviceRecord.{DeviceRecord}
use Rattle.tables.specs.declared.TaskRecord.{TaskRecord}
use Rattle.tables.specs.declared.JobRecord.{JobRecord}
use Rattle.tables.specs.Records.{device_at, device_size, task_at, job_at}
use Rattle.tables.specs.Layout.{layout_of, tasks_place, jobs_place}
use Rattle.tables.proofs.Back.{tasks_place_lem, jobs_place_lem}
use Rattle.tables.proofs.Parts.{place_in, count_is}
use Rattle.tables.proofs.Joining.{length_section, length_jobs, length_layout}
use Rattle.request.specs.declared.Section.{Section}
use Rattle.request.specs.declared.Section.TheVariants.{DeviceRecords, TaskRecords, JobRecords}
use Rattle.request.specs.Format.{Reading, powers_table, device_table, task_table, job_table, head_of, record_table, record_fault, horizon_of, mixed, count_of, job_records, job_section, task_section, fault_as, read_as}
use Rattle.request.specs.Format as Format
use Rattle.planner.specs.declared.Answer.{Answer}
use Rattle.planner.specs.Promises.{Written}
use Rattle.planner.specs.Promises as P

-- ---- neither 1 nor 2

abbrev pub Neither : ℕ → Type 0
Neither n = (n ≡ 1 → ⊥) × (n ≡ 2 → ⊥)

above : (n : ℕ) → 3 ≤ n → Neither n
above n h = (λ e. omega (arith, e, h), λ e. omega (arith, e, h))

none : Neither 0
none = (λ e. omega (arith, e), λ e. omega (arith, e))

-- The first of a table whose lines give neither; and of records one after the other.
abbrev Lines : List Refusal → Type 0
Lines [] = Unit {0}
Lines (r ∷ rs) = (r.test ≡ true → Neither r.number) × Lines rs

of_table : (rs : List Refusal) → Lines rs → Neither (first_that rs)
of_table [] h = none
of_table (r ∷ rs) h = cond_cases Neither r.test h.0 (λ e. of_table rs h.1)

of_both : (f rest : ℕ) → Neither f → Neither rest → Neither (or_else f rest)
of_both f rest a b = cond_cases Neither (eqb f 0) (λ e. b) (λ e. a)

of_records : (f size : ℕ → ℕ) (l : ℕ) → ((at : ℕ) → at + size at ≤ l → Neither (f at)) → (n at : ℕ) → after size n at ≤ l → Neither (first_of f size n at)
unfolding first_of
of_records f size l one zero at h = none
of_records f size l one (suc n) at h =
    of_both (f at) _ (one at (omega (arith, h, after_from_lem size n (at + size at)))) (of_records f size l one n (at + size at) h)

-- ---- a record that is there

pub head_in : (k : Kind) (s : List ℕ) (at : ℕ) → head_of (DeviceRecords k) ≤ device_size k s at
head_in First s at = omega arith
head_in Second s at = omega arith
head_in Third s at = omega arith

device_lines : (short : Bool) (d : DeviceRecord) → (short ≡ true → ⊥) → Lines (device_table short d)
unfolding device_table powers_table
device_lines short d h = (
  (λ e. above 4 (omega arith)),
  (
    (λ e. above 4 (omega arith)),
    (
      (λ e. above 26 (omega arith)),
      (
        (λ e. above 26 (omega arith)),
        (
          (λ e. absurd (h e)),
          (
            (λ e. above 5 (omega arith)),
            (
              (λ e. above 5 (omega arith)),
              (
                (λ e. above 5 (omega arith)),
                (
                  (λ e. above 5 (omega arith)),
                  (
                    (λ e. above 5 (omega arith)),
                    ((λ e. above 5 (omega arith)), tt),
                  ),
                ),
              ),
            ),
          ),
        ),
      ),
    ),
  ),
)

task_lines : (n : ℕ) (k : TaskRecord) → Lines (task_table n k)
unfolding task_table
task_lines n k = (
  (λ e. above 7 (omega arith)),
  ((λ e. above 7 (omega arith)), ((λ e. above 8 (omega arith)), ((λ e. above 8 (omega arith)), ((λ e. above 9 (omega arith)), tt)))),
)

job_lines : (n h : ℕ) (j : JobRecord) → Lines (job_table n h j)
unfolding job_table
job_lines n h j = ((λ e. above 9 (omega arith)), ((λ e. above 13 (omega arith)), ((λ e. above 13 (omega arith)), ((λ e. above 13 (omega arith)), tt))))

module _ (s : List ℕ) where
  -- A record of a section whose bytes are there: what is called for is, and its table decides.
  there : (k : Section) (at : ℕ) → at + head_of k ≤ length s → Lines (record_table s k at) → Neither (record_fault s k at)
  unfolding record_fault
  there k at h t =
      cond_cases Neither (ltb (length s - at) (head_of k)) (λ e. absurd (omega (arith, h, ltb-true (length s - at) (head_of k) e))) (λ e. of_table (record_table s k at) t)

  device_there : (k : Kind) (at : ℕ) → at + device_size k s at ≤ length s → Neither (record_fault s (DeviceRecords k) at)
  unfolding record_table
  device_there k at h =
      there (DeviceRecords k) at (omega (arith, h, head_in k s at))
      (device_lines (ltb (length s - at) (device_size k s at)) (device_at k s at) (λ e. omega (arith, h, ltb-true (length s - at) (device_size k s at) e)))

  task_there : (n at : ℕ) → at + 5 ≤ length s → Neither (record_fault s (TaskRecords n) at)
  unfolding record_table
  task_there n at h = there (TaskRecords n) at h (task_lines n (task_at s at))

  job_there : (n h at : ℕ) → at + 7 ≤ length s → Neither (record_fault s (JobRecords n h) at)
  unfolding record_table
  job_there n h at l = there (JobRecords n h) at l (job_lines n h (job_at s at))

  -- ---- the sections in turn

  jobs_there : (n tasks from at : ℕ) → at + 1 + byte_at s at * 7 ≡ length s → Neither (job_section s n tasks from at)
  unfolding job_section job_records
  jobs_there n tasks from at e =
      let h = horizon_of s tasks from in
      cond_cases Neither (leb (length s) at) (λ t. absurd (omega (arith, e, leb-true (length s) at t)))
      (λ _. cond_cases Neither (mixed tasks (pair_at s 0) (byte_at s at)) (λ _. above 11 (omega arith))
      (λ _. cond_cases Neither (eqb h 0) (λ _. above 10 (omega arith))
      (λ _. cond_cases Neither (ltb 4096 h) (λ _. above 10 (omega arith))
      (λ _. cond_cases Neither (ltb 16 (count_of s tasks from (byte_at s at) h)) (λ _. above 12 (omega arith))
      (λ _. of_both _ _ (of_records (record_fault s (JobRecords n h)) (λ i. 7) (length s) (job_there n h) (byte_at s at) (at + 1) (omega (arith, e, after_even 7 (byte_at s at) (at + 1))))
      (cond_cases Neither (ltb (at + 1 + byte_at s at * 7) (length s)) (λ t. absurd (omega (arith, e, ltb-true (at + 1 + byte_at s at * 7) (length s) t))) (λ _. none)))))))

  tasks_there : (n at : ℕ) → (let j = at + 1 + byte_at s at * 5 in j + 1 + byte_at s j * 7 ≡ length s) → Neither (task_section s n at)
  unfolding task_section
  tasks_there n at e =
      cond_cases Neither (leb (length s) at) (λ t. absurd (omega (arith, e, leb-true (length s) at t)))
      (λ _. cond_cases Neither (ltb 8 (byte_at s at)) (λ _. above 6 (omega arith))
      (λ _. of_both _ _ (of_records (record_fault s (TaskRecords n)) (λ i. 5) (length s) (task_there n) (byte_at s at) (at + 1) (omega (arith, e, after_even 5 (byte_at s at) (at + 1))))
      (jobs_there n (byte_at s at) (at + 1) (at + 1 + byte_at s at * 5) e)))

  -- What has all its tables, and nothing after them, is refused by neither.
  pub whole_never : (k : Kind) → jobs_place k s + 1 + byte_at s (jobs_place k s) * 7 ≡ length s → Neither (fault_as k s)
  unfolding fault_as
  whole_never k e =
      let from = after_from_lem (device_size k s) (byte_at s 2) 3 in
      cond_cases Neither (ltb (length s) 3) (λ t. absurd (omega (arith, e, from, ltb-true (length s) 3 t)))
      (λ _. cond_cases Neither (ltb 8 (byte_at s 2)) (λ _. above 3 (omega arith))
      (λ _. of_both _ _ (of_records (record_fault s (DeviceRecords k)) (device_size k s) (length s) (device_there k) (byte_at s 2) 3 (omega (arith, e)))
      (tasks_there (byte_at s 2) (tasks_place k s) e)))

-- ---- tables

laid_whole : (T : Tables) → let s = layout_of T in jobs_place T.kind s + 1 + byte_at s (jobs_place T.kind s) * 7 ≡ length s
laid_whole T =
    let s = layout_of T in
    let place : jobs_place T.kind s ≡ place_in T Jobs = rw (count_is T Devices, tasks_place_lem T, count_is T Tasks) (jobs_place_lem T) in
    rw (place, count_is T Jobs) (omega (arith, length_layout T, length_section T Jobs, length_jobs T T.jobs.count, length_section T Devices, length_section T Tasks))

pub refused_is : (k : Kind) (s : List ℕ) (n : ℕ) → read_as k s ≡ Format.refused n → fault_as k s ≡ n
unfolding read_as
refused_is k s n e =
    cond_cases (λ (r : Reading). r ≡ Format.refused n → fault_as k s ≡ n) (eqb (fault_as k s) 0)
    (λ _ q. let z : ◌≡◌ {A = ℕ} 0 1 = cc in absurd (omega arith)) (λ _ q. cc) e

-- So the writer never answers 1 or 2.
pub written_neither : (T : Tables) (lent : List ℕ) {a : Answer} {after : List ℕ} → Written T lent a after → Neither a.number
written_neither T lent (P.Written.refused {n = n} r) = rw (← refused_is T.kind (layout_of T) n r) (whole_never (layout_of T) T.kind (laid_whole T))
written_neither T lent (P.Written.read r (P.stops h)) = above 15 (omega arith)
written_neither T lent (P.Written.read r (P.passes h P.gives)) = none
