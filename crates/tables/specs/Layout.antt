-- The tables of a request file and its bytes, one from the other (rule 10): what marks its kind, the horizon field, then the devices, the tasks and the jobs,
-- each table after its count. Nothing is judged here. proofs/Back: reading the bytes of tables gives the tables again, and the bytes of the tables of a whole file are the file.
use Rattle.std.specs.Prelude.{ℕ, zero, suc, ◌+◌, ◌*◌, ◌<◌, List, [], ◌∷◌, ◌++◌, cond, eqb, length, get_or, drop}
use Rattle.base.specs.Bytes.{byte_at, pair_at, pair_bytes}
use Rattle.base.specs.Lists.{up_to, padded}
use Rattle.base.specs.Refusals.{after}
use Rattle.tables.specs.declared.Kind.{Kind}
use Rattle.tables.specs.declared.Kind.TheVariants.{First, Second, Third}
use Rattle.tables.specs.declared.DeviceRecord.{DeviceRecord}
use Rattle.tables.specs.declared.Table.{Table}
use Rattle.tables.specs.declared.TaskRecord.{TaskRecord}
use Rattle.tables.specs.declared.JobRecord.{JobRecord}
use Rattle.tables.specs.declared.Tables.{Tables}
use Rattle.tables.specs.declared.TableName.{TableName}
use Rattle.tables.specs.declared.TableName.TheVariants.{Devices, Tasks, Jobs}
use Rattle.tables.specs.Records.{device_at, device_size, device_bytes, told, task_at, task_bytes, job_at, job_bytes, blank_device, blank_task, blank_job}

-- ---- the kind

-- A file of the first kind has no mark, one of the second begins with FF 02 (rule 75), one of the third with FF 03 (rule 80).
abbrev pub marker : Kind → List ℕ
marker First = []
marker Second = 255 ∷ 2 ∷ []
marker Third = 255 ∷ 3 ∷ []

unfoldable pub kind_of : List ℕ → Kind
kind_of s = cond (eqb (byte_at s 0) 255) (cond (eqb (byte_at s 1) 2) Second (cond (eqb (byte_at s 1) 3) Third First)) First

-- What follows the mark: the layout is the same in all kinds but for the device records.
abbrev pub body_of : List ℕ → List ℕ
body_of s = drop (length (marker (kind_of s))) s

-- ---- from tables to bytes

-- The records of the tables, by number.
abbrev pub device_in : Tables → ℕ → DeviceRecord
device_in T k = get_or T.devices.list k blank_device

abbrev pub task_in : Tables → ℕ → TaskRecord
task_in T i = get_or T.tasks.list i blank_task

abbrev pub job_in : Tables → ℕ → JobRecord
job_in T j = get_or T.jobs.list j blank_job

-- Of each table its count, and the bytes of one record.
abbrev pub count_in : Tables → TableName → ℕ
count_in T Devices = T.devices.count
count_in T Tasks = T.tasks.count
count_in T Jobs = T.jobs.count

abbrev pub record_in : Tables → TableName → ℕ → List ℕ
record_in T Devices k = device_bytes T.kind (device_in T k)
record_in T Tasks i = task_bytes (task_in T i)
record_in T Jobs j = job_bytes (job_in T j)

-- The first n lists, one after the other.
unfoldable pub joined : (ℕ → List ℕ) → ℕ → List ℕ
joined g zero = []
joined g (suc n) = joined g n ++ g n

-- A count stands as it is, even where no byte holds it: such a file is refused for it.
unfoldable pub section_of : Tables → TableName → List ℕ
section_of T p = count_in T p ∷ joined (record_in T p) (count_in T p)

unfoldable pub layout_of : Tables → List ℕ
layout_of T = pair_bytes T.horizon ++ (section_of T Devices ++ (section_of T Tasks ++ section_of T Jobs))

unfoldable pub bytes_of : Tables → List ℕ
bytes_of T = marker T.kind ++ layout_of T

-- ---- from bytes to tables

-- What a file is: each number of the list is a byte.
abbrev pub Bytes : List ℕ → Type 0
Bytes s = (i : ℕ) → byte_at s i < 256

-- Of what follows the mark, by kind: where device n's record stands, or would; where the task count and the job count stand, and the task count.
abbrev pub device_place : Kind → List ℕ → ℕ → ℕ
device_place k s n = after (device_size k s) n 3

abbrev pub tasks_place : Kind → List ℕ → ℕ
tasks_place k s = device_place k s (byte_at s 2)

abbrev pub task_count : Kind → List ℕ → ℕ
task_count k s = byte_at s (tasks_place k s)

abbrev pub jobs_place : Kind → List ℕ → ℕ
jobs_place k s = tasks_place k s + 1 + task_count k s * 5

-- The first n records of a table, and blank ones after them.
abbrev pub table_held : {A : Type 0} (size : ℕ) (blank : A) → (ℕ → A) → ℕ → Table A size
table_held size blank f n = record { count = n; list = padded size blank (up_to f n) }

abbrev pub devices_held : (ℕ → DeviceRecord) → ℕ → Table DeviceRecord 8
devices_held = table_held 8 blank_device

abbrev pub tasks_held : (ℕ → TaskRecord) → ℕ → Table TaskRecord 8
tasks_held = table_held 8 blank_task

abbrev pub jobs_held : (ℕ → JobRecord) → ℕ → Table JobRecord 16
jobs_held = table_held 16 blank_job

unfoldable pub tables_as : Kind → List ℕ → Tables
tables_as k s =
    record {
      kind = k;
      horizon = pair_at s 0;
      devices = devices_held (λ i. device_at k s (device_place k s i)) (byte_at s 2);
      tasks = tasks_held (λ i. task_at s (tasks_place k s + 1 + i * 5)) (task_count k s);
      jobs = jobs_held (λ j. job_at s (jobs_place k s + 1 + j * 7)) (byte_at s (jobs_place k s));
    }

abbrev pub tables_of : List ℕ → Tables
tables_of s = tables_as (kind_of s) (body_of s)

-- Tables as they are read: what stands beyond a count does not count, nor what the kind does not tell.
unfoldable pub counted : Tables → Tables
counted T =
    record {
      kind = T.kind;
      horizon = T.horizon;
      devices = devices_held (λ k. told T.kind (device_in T k)) T.devices.count;
      tasks = tasks_held (task_in T) T.tasks.count;
      jobs = jobs_held (job_in T) T.jobs.count;
    }

-- No tables at all: what is handed on with a refusal.
abbrev pub no_tables : Tables
no_tables = record { kind = First; horizon = 0; devices = devices_held (λ k. blank_device) 0; tasks = tasks_held (λ i. blank_task) 0; jobs = jobs_held (λ j. blank_job) 0 }
