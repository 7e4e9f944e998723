-- Tables as the doors take and give them: the kind (1 byte: 1, 2 or 3), the horizon field, then the device count, the task count and the job count (2 bytes
-- each); then the records as they stand in a file of that kind, 8 devices, 8 tasks and 16 jobs at most, though a count may be larger.
use Rattle.std.specs.Prelude.{◌≡◌, cond, List, ◌∷◌, ◌++◌, ℕ, ◌+◌, ◌*◌, ◌≤◌, min, eqb, length}
use Rattle.base.specs.Bytes.{byte_at, pair_at, pair_bytes}
use Rattle.base.specs.Refusals.{after}
use Rattle.tables.specs.declared.Kind.{Kind}
use Rattle.tables.specs.declared.Kind.TheVariants.{First, Second, Third}
use Rattle.tables.specs.declared.Table.{Table}
use Rattle.tables.specs.declared.DeviceRecord.{DeviceRecord}
use Rattle.tables.specs.declared.TaskRecord.{TaskRecord}
use Rattle.tables.specs.declared.JobRecord.{JobRecord}
use Rattle.tables.specs.declared.Tables.{Tables}
use Rattle.tables.specs.declared.TableName.TheVariants.{Devices, Tasks, Jobs}
use Rattle.tables.specs.Records.{device_at, device_size, task_at, job_at}
use Rattle.tables.specs.Layout.{devices_held, tasks_held, jobs_held, record_in, joined}

-- ---- from bytes

abbrev pub kind_named : ℕ → Kind
kind_named byte = cond (eqb byte 3) Third (cond (eqb byte 2) Second First)

-- Where the tasks begin, after the devices, and where the jobs do.
abbrev pub tasks_from : List ℕ → ℕ
tasks_from s = after (device_size (kind_named (byte_at s 0)) s) (min (pair_at s 3) 8) 9

abbrev pub jobs_from : List ℕ → ℕ
jobs_from s = tasks_from s + min (pair_at s 5) 8 * 5

-- Bytes are tables if they name a kind and are as many as the counts say.
pub record AreTables (s : List ℕ) : Type 0 where
  pub kind : (1 ≤ byte_at s 0) × (byte_at s 0 ≤ 3)
  pub ends : jobs_from s + min (pair_at s 7) 16 * 7 ≡ length s

-- The tables: each count as it stands, and the records that are there.
abbrev pub devices_in : Kind → List ℕ → Table DeviceRecord 8
devices_in k s = record { count = pair_at s 3; list = (devices_held (λ i. device_at k s (after (device_size k s) i 9)) (min (pair_at s 3) 8)).list }

abbrev pub tasks_in : List ℕ → ℕ → Table TaskRecord 8
tasks_in s from = record { count = pair_at s 5; list = (tasks_held (λ i. task_at s (from + i * 5)) (min (pair_at s 5) 8)).list }

abbrev pub jobs_in : List ℕ → ℕ → Table JobRecord 16
jobs_in s from = record { count = pair_at s 7; list = (jobs_held (λ j. job_at s (from + j * 7)) (min (pair_at s 7) 16)).list }

abbrev pub tables_from : List ℕ → Tables
tables_from s =
    let k = kind_named (byte_at s 0) in
    record { kind = k; horizon = pair_at s 1; devices = devices_in k s; tasks = tasks_in s (tasks_from s); jobs = jobs_in s (jobs_from s) }

-- ---- to bytes: of tables that a file has, with no more records than fit their lists

abbrev pub kind_byte : Kind → ℕ
kind_byte First = 1
kind_byte Second = 2
kind_byte Third = 3

abbrev pub head_of : Kind → (horizon devices tasks jobs : ℕ) → List ℕ
head_of k horizon devices tasks jobs = kind_byte k ∷ (pair_bytes horizon ++ (pair_bytes devices ++ (pair_bytes tasks ++ pair_bytes jobs)))

unfoldable pub table_bytes : Tables → List ℕ
table_bytes T =
    head_of T.kind T.horizon T.devices.count T.tasks.count T.jobs.count
    ++ (joined (record_in T Devices) T.devices.count ++ (joined (record_in T Tasks) T.tasks.count ++ joined (record_in T Jobs) T.jobs.count))

pub record Few (T : Tables) : Type 0 where
  pub devices : T.devices.count ≤ 8
  pub tasks : T.tasks.count ≤ 8
  pub jobs : T.jobs.count ≤ 16
