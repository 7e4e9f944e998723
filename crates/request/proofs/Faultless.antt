-- What a file without a fault says, section by section, each fact read off once; and what is read of a file by its fault.
use mathlib.Core.Path.{◌≡◌, refl, sym}
use mathlib.Core.Bool.{Bool, true, false, cond, not, ◌||◌, true≢false}
use mathlib.Core.List.{List}
use mathlib.Core.Logic.{⊎_elim}
use Prim.Native.Nat.{ℕ, ◌+◌, ◌*◌, ◌<◌, ◌≤◌}
use native.Mathlib.Omega.{arith}
use native.Mathlib.Nat.{pos_of_ne-zero, eq-zero-or-pos, mul-le-mul_right}
use lib.ListN.{length}
use lib.Dec.{ltb, leb, eqb}
use borrow.Author.Tests.{ltb-false, leb-false, eqb-true, eqb-false, eq-eqb, ne_eqb}
use Rattle.base.specs.Bytes.{byte_at, pair_at}
use Rattle.base.proofs.Arrays.{length_up_to}
use Rattle.base.proofs.Clear.{passed}
use Rattle.base.proofs.Records.{or_else_zero, after_most}
use Rattle.schedule.specs.declared.Job.{Job}
use Rattle.request.specs.declared.Section.TheVariants.{DeviceRecords, TaskRecords, JobRecords}
use Rattle.tables.specs.declared.Kind.{Kind}
use Rattle.tables.specs.declared.Kind.TheVariants.{First, Second, Third}
use Rattle.tables.specs.Records.{device_size}
use Rattle.tables.specs.Layout.{device_place, tasks_place, task_count, jobs_place}
use Rattle.request.specs.Format.{records_fault, horizon_of, unfolded, listed, jobs_of, mixed, count_of, job_records, job_section, task_section, fault_as, recorder_as, read_as, refused, accepted}

-- From the job count on, which stands at a place.
pub record JobsFaultless (s : List ℕ) (n tasks from at : ℕ) : Type 0 where
  pub there : at < length s
  pub apart : mixed tasks (pair_at s 0) (byte_at s at) ≡ false
  pub some_tick : 0 < horizon_of s tasks from
  pub few_ticks : horizon_of s tasks from ≤ 4096
  pub few_jobs : count_of s tasks from (byte_at s at) (horizon_of s tasks from) ≤ 16
  pub records : 0 ≡ records_fault s (JobRecords n (horizon_of s tasks from)) (byte_at s at) (at + 1)
  pub whole : length s ≤ at + 1 + byte_at s at * 7

pub record Faultless (k : Kind) (s : List ℕ) : Type 0 where
  pub head : 3 ≤ length s
  pub few_devices : byte_at s 2 ≤ 8
  pub device_records : 0 ≡ records_fault s (DeviceRecords k) (byte_at s 2) 3
  pub tasks_there : tasks_place k s < length s
  pub few_tasks : task_count k s ≤ 8
  pub task_records : 0 ≡ records_fault s (TaskRecords (byte_at s 2)) (task_count k s) (tasks_place k s + 1)
  pub jobs : JobsFaultless s (byte_at s 2) (task_count k s) (tasks_place k s + 1) (jobs_place k s)

jobs_faultless : (s : List ℕ) (n tasks from at : ℕ) → 0 ≡ job_section s n tasks from at → JobsFaultless s n tasks from at
unfolding job_section job_records
jobs_faultless s n tasks from at e =
    let h = horizon_of s tasks from in
    let e₁ = passed (leb (length s) at) 1 _ tt e in
    let e₂ = passed (mixed tasks (pair_at s 0) (byte_at s at)) 11 _ tt e₁.1 in
    let e₃ = passed (eqb h 0) 10 _ tt e₂.1 in
    let e₄ = passed (ltb 4096 h) 10 _ tt e₃.1 in
    let e₅ = passed (ltb 16 (count_of s tasks from (byte_at s at) h)) 12 _ tt e₄.1 in
    let e₆ = or_else_zero (records_fault s (JobRecords n h) (byte_at s at) (at + 1)) _ e₅.1 in
    let e₇ = passed (ltb (at + 1 + byte_at s at * 7) (length s)) 2 _ tt e₆.1 in
    record {
      there = leb-false (length s) at e₁.0;
      apart = e₂.0;
      some_tick = pos_of_ne-zero (eqb-false h 0 e₃.0);
      few_ticks = ltb-false 4096 h e₄.0;
      few_jobs = ltb-false 16 _ e₅.0;
      records = e₆.0;
      whole = ltb-false _ (length s) e₇.0;
    }

pub faultless : (k : Kind) (s : List ℕ) → 0 ≡ fault_as k s → Faultless k s
unfolding fault_as task_section
faultless k s e =
    let n = byte_at s 2 in
    let e₁ = passed (ltb (length s) 3) 1 _ tt e in
    let e₂ = passed (ltb 8 n) 3 _ tt e₁.1 in
    let e₃ = or_else_zero (records_fault s (DeviceRecords k) n 3) _ e₂.1 in
    let e₄ = passed (leb (length s) (tasks_place k s)) 1 _ tt e₃.1 in
    let e₅ = passed (ltb 8 (task_count k s)) 6 _ tt e₄.1 in
    let e₆ = or_else_zero (records_fault s (TaskRecords n) (task_count k s) (tasks_place k s + 1)) _ e₅.1 in
    record {
      head = ltb-false (length s) 3 e₁.0;
      few_devices = ltb-false 8 n e₂.0;
      device_records = e₃.0;
      tasks_there = leb-false (length s) (tasks_place k s) e₄.0;
      few_tasks = ltb-false 8 (task_count k s) e₅.0;
      task_records = e₆.0;
      jobs = jobs_faultless s n (task_count k s) (tasks_place k s + 1) (jobs_place k s) e₆.1;
    }

-- Where tasks are given, the horizon field and the job count are 0.
neither : (a b : Bool) → (not a || not b) ≡ false → (a ≡ true) × (b ≡ true)
neither true true e = (refl, refl)
neither true false e = absurd (true≢false e)
neither false b e = absurd (true≢false e)

pub tasks_alone : (tasks field count : ℕ) → mixed tasks field count ≡ false → (tasks ≡ 0 → ⊥) → (field ≡ 0) × (count ≡ 0)
unfolding mixed
tasks_alone tasks field count e nz =
    let p = neither (eqb field 0) (eqb count 0) (rw (ne_eqb tasks 0 nz) at e) in
    (eqb-true field 0 p.0, eqb-true count 0 p.1)

-- So few jobs are listed,
pub few_listed : (tasks field count unfolded : ℕ) → mixed tasks field count ≡ false → cond (eqb tasks 0) count unfolded ≤ 16 → count ≤ 16
few_listed tasks field count unfolded e m =
    ⊎_elim (λ z. rw (eq-eqb tasks 0 z) at m) (λ p. omega (arith, tasks_alone tasks field count e (λ z. omega arith))) (eq-zero-or-pos tasks)

-- and their records end soon after the tasks.
pub jobs_end :
    (tasks field count unfolded at from : ℕ) → tasks ≤ 8 → at ≤ from + tasks * 5 → mixed tasks field count ≡ false → cond (eqb tasks 0) count unfolded ≤ 16 →
    at + 1 + count * 7 ≤ from + 113
jobs_end tasks field count unfolded at from few l e m =
    ⊎_elim
    (λ z. let c : count ≤ 16 = rw (eq-eqb tasks 0 z) at m in omega arith)
    (λ p. omega (arith, tasks_alone tasks field count e (λ z. omega arith)))
    (eq-zero-or-pos tasks)

-- The most bytes that a device record has, by kind.
abbrev pub device_most : Kind → ℕ
device_most First = 7
device_most Second = 10
device_most Third = 14

pub size_most : (k : Kind) (s : List ℕ) (at : ℕ) → device_size k s at ≤ device_most k
size_most First s at = omega arith
size_most Second s at = omega arith
size_most Third s at = omega arith

pub place_most : (k : Kind) (s : List ℕ) (n : ℕ) → n ≤ 8 → device_place k s n ≤ 3 + 8 * device_most k
place_most k s n h =
    omega (arith, after_most (device_size k s) (device_most k) (size_most k s) n 3, mul-le-mul_right (device_most k) h)

-- As many jobs are counted as there are, and they are few.
count_cases : (t : Bool) (s : List ℕ) (n at : ℕ) (l : List Job) → cond t n (length l) ≡ length (cond t (listed s n at) l)
count_cases true s n at l = sym (length_up_to _ n)
count_cases false s n at l = refl

pub length_jobs : (s : List ℕ) (n tasks from at : ℕ) → JobsFaultless s n tasks from at → length (jobs_of s tasks from at) ≤ 16
unfolding count_of jobs_of
length_jobs s n tasks from at ok = rw (← count_cases (eqb tasks 0) s (byte_at s at) (at + 1) (unfolded s tasks from (horizon_of s tasks from))) ok.few_jobs

-- What is read of a file of a kind.
module _ (k : Kind) (s : List ℕ) where
  pub read_faultless : 0 ≡ fault_as k s → read_as k s ≡ accepted (recorder_as k s)
  unfolding read_as
  read_faultless e = rw (eq-eqb (fault_as k s) 0 (sym e))

  pub read_fault : (fault_as k s ≡ 0 → ⊥) → read_as k s ≡ refused (fault_as k s)
  unfolding read_as
  read_fault h = rw (ne_eqb (fault_as k s) 0 h)
