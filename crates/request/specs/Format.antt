-- The request file (rules 8 to 15, 75 to 77 and 80 to 83): from a list of bytes to the recorder, or to its refusal, one of the numbers 1 to 13 or 26. The bytes are looked at in their
-- order, and whatever is wrong first gives the number: each section takes the place where it begins, and goes on with the next.
use Rattle.std.specs.Prelude.{ℕ, zero, suc, ◌+◌, ◌-◌, ◌*◌, ◌/◌, ◌%◌, ◌^◌, List, [], ◌∷◌, ◌++◌, Bool, false, cond, not, ◌&&◌, ◌||◌, length, replicate, ltb, leb, eqb, Result, Ok, Err}
use Rattle.base.specs.Bytes.{byte_at, pair_at}
use Rattle.base.specs.Lists.{up_to, padded}
use Rattle.base.specs.declared.reasons.Reason.{Reason}
use Rattle.base.specs.Reasons.{number_of}
use Rattle.base.specs.Refusals.{Refusal, ◌⇒◌, first_that, or_else, first_of}
use Rattle.device.specs.declared.Device.{Device}
use Rattle.device.specs.declared.Sleeps.{Sleeps}
use Rattle.device.specs.declared.Sleeps.TheVariants.{Plain, Numbered}
use Rattle.schedule.specs.declared.Job.{Job}
use Rattle.schedule.specs.declared.Jobs.{Jobs}
use Rattle.schedule.specs.declared.Devices.{Devices}
use Rattle.schedule.specs.declared.Recorder.{Recorder}
use Rattle.tables.specs.declared.Kind.{Kind}
use Rattle.tables.specs.declared.Kind.TheVariants.{First, Second, Third}
use Rattle.tables.specs.declared.DeviceRecord.{DeviceRecord}
use Rattle.tables.specs.declared.TaskRecord.{TaskRecord}
use Rattle.tables.specs.declared.JobRecord.{JobRecord}
use Rattle.tables.specs.Records.{device_at, device_size, task_at, job_at}
use Rattle.tables.specs.Layout.{kind_of, body_of, device_place, tasks_place, task_count, jobs_place}
use Rattle.request.specs.declared.Section.{Section}
use Rattle.request.specs.declared.Section.TheVariants.{DeviceRecords, TaskRecords, JobRecords}
use Rattle.request.specs.Euclid.{lcm_of}

-- What a file is read as.
pub data Reading : Type 0 where
  refused : ℕ → Reading
  accepted : Recorder → Reading

-- ---- what is planned with: of a record that stands at a place (tables/specs/Records)

-- A device set has one bit a device, device 0 in the lowest (rule 14).
abbrev pub bit : ℕ → ℕ → Bool
bit set k = eqb (set / 2 ^ k % 2) 1

abbrev pub set_of : ℕ → List Bool
set_of set = up_to (bit set) 8

-- The device of a record (rule 3), whatever the kind of its file.
abbrev pub device_of : DeviceRecord → Device
device_of d =
    record {
      shut = d.shut;
      wake = d.wake;
      pw = d.pw;
      pd = d.pshut;
      pu = d.pwake;
      levels = d.levels;
      powers = d.ps ∷ d.ps2 ∷ d.ps3 ∷ d.ps4 ∷ [];
    }

abbrev pub listed_job : JobRecord → Job
listed_job j = record { release = j.release; deadline = j.deadline; run = j.run; uses = set_of j.set }

-- ---- what refuses a record that is there: its lines stand by number (rule 15), but for what the level count calls for (rule 83)

-- Level i + 1 is one of the device's, and does not cost less than the one above it.
unfoldable pub no_lower : (levels i above power : ℕ) → Bool
no_lower levels i above power = ltb i levels && leb above power

unfoldable pub powers_table : DeviceRecord → List Refusal
powers_table d =
    (leb d.pwake d.ps ⇒ 5)
    ∷ (leb d.pshut d.ps ⇒ 5)
    ∷ (no_lower d.levels 0 d.pw d.ps ⇒ 5)
    ∷ (no_lower d.levels 1 d.ps d.ps2 ⇒ 5)
    ∷ (no_lower d.levels 2 d.ps2 d.ps3 ⇒ 5)
    ∷ (no_lower d.levels 3 d.ps3 d.ps4 ⇒ 5)
    ∷ []

-- `short`: its powers are not all there.
unfoldable pub device_table : (short : Bool) → DeviceRecord → List Refusal
device_table short d =
    (eqb d.wake 0 ⇒ 4)
    ∷ (eqb d.shut 0 ⇒ 4)
    ∷ (eqb d.levels 0 ⇒ 26)
    ∷ (ltb 4 d.levels ⇒ 26)
    ∷ (short ⇒ 1)
    ∷ powers_table d

-- A device set names a device that a file with n devices lacks: it has a bit from n on.
unfoldable pub lacks : ℕ → ℕ → Bool
lacks n set = leb (2 ^ n) set

unfoldable pub task_table : ℕ → TaskRecord → List Refusal
task_table n k =
    (eqb k.period 0 ⇒ 7)
    ∷ (ltb 4096 k.period ⇒ 7)
    ∷ (eqb k.run 0 ⇒ 8)
    ∷ (ltb k.period k.run ⇒ 8)
    ∷ (lacks n k.set ⇒ 9)
    ∷ []

unfoldable pub job_table : ℕ → ℕ → JobRecord → List Refusal
job_table n h j =
    (lacks n j.set ⇒ 9)
    ∷ (eqb j.run 0 ⇒ 13)
    ∷ (ltb j.deadline (j.release + j.run) ⇒ 13)
    ∷ (ltb h j.deadline ⇒ 13)
    ∷ []

-- The bytes of a section's record, and its table: the devices of a file of a kind, the tasks of one with n devices, the jobs of one with n devices and the
-- horizon h.
abbrev pub size_of : List ℕ → Section → ℕ → ℕ
size_of s (DeviceRecords k) at = device_size k s at
size_of s (TaskRecords n) at = 5
size_of s (JobRecords n h) at = 7

-- How many of them are called for before anything in the record is judged: all, but for the powers that a level count calls for.
abbrev pub head_of : Section → ℕ
head_of (DeviceRecords First) = 7
head_of (DeviceRecords Second) = 10
head_of (DeviceRecords Third) = 6
head_of (TaskRecords n) = 5
head_of (JobRecords n h) = 7

unfoldable pub record_table : List ℕ → Section → ℕ → List Refusal
record_table s (DeviceRecords k) at = device_table (ltb (length s - at) (device_size k s at)) (device_at k s at)
record_table s (TaskRecords n) at = task_table n (task_at s at)
record_table s (JobRecords n h) at = job_table n h (job_at s at)

-- A record that is not there is 1, before anything in it is judged; and the records of a section in turn (rule 15).
unfoldable pub record_fault : List ℕ → Section → ℕ → ℕ
record_fault s k at = cond (ltb (length s - at) (head_of k)) 1 (first_that (record_table s k at))

abbrev pub records_fault : List ℕ → Section → ℕ → ℕ → ℕ
records_fault s k n at = first_of (record_fault s k) (size_of s k) n at

-- ---- the horizon: `from` is the place of the first task's record

-- The least common multiple of h and the periods of n tasks.
unfoldable pub lcm_from : List ℕ → ℕ → ℕ → ℕ → ℕ
lcm_from s zero at h = h
lcm_from s (suc n) at h = lcm_from s n (at + 5) (lcm_of h (pair_at s at))

-- The horizon is worked out where there are tasks (rule 9), and given in the first field where there are none (rule 2).
unfoldable pub horizon_of : List ℕ → ℕ → ℕ → ℕ
horizon_of s tasks from = cond (eqb tasks 0) (pair_at s 0) (lcm_from s tasks from 1)

-- ---- the jobs

-- A task's job that is released at t: it is due when the next one is released (rule 8).
abbrev pub job_of : TaskRecord → ℕ → Job
job_of k t = record { release = t; deadline = t + k.period; run = k.run; uses = set_of k.set }

-- What a task releases at t: one job at each multiple of its period (rule 8; proofs/Unfolding: H / p of them).
abbrev pub released : TaskRecord → ℕ → List Job
released k t = cond (eqb (t % k.period) 0) (job_of k t ∷ []) []

-- What the first n tasks release at t, by task number; and before h, by release. A job's number is its place in this list (rule 6).
unfoldable pub released_at : List ℕ → ℕ → ℕ → ℕ → List Job
released_at s zero from t = []
released_at s (suc n) from t = released_at s n from t ++ released (task_at s (from + n * 5)) t

unfoldable pub unfolded : List ℕ → ℕ → ℕ → ℕ → List Job
unfolded s n from zero = []
unfolded s n from (suc t) = unfolded s n from t ++ released_at s n from t

-- n jobs listed from a place on.
abbrev pub listed : List ℕ → ℕ → ℕ → List Job
listed s n at = up_to (λ j. listed_job (job_at s (at + j * 7))) n

-- Given, or unfolded from the tasks: `at` is the place of the job count.
unfoldable pub jobs_of : List ℕ → ℕ → ℕ → ℕ → List Job
jobs_of s tasks from at = cond (eqb tasks 0) (listed s (byte_at s at) (at + 1)) (unfolded s tasks from (horizon_of s tasks from))

-- ---- the sections in turn, each number of the refusal table once

-- 11: a file with tasks names a horizon, or jobs, besides.
unfoldable pub mixed : ℕ → ℕ → ℕ → Bool
mixed tasks field count = not (eqb tasks 0) && (not (eqb field 0) || not (eqb count 0))

-- The number of jobs, given or unfolded.
unfoldable pub count_of : (file : List ℕ) (tasks from count horizon : ℕ) → ℕ
count_of s tasks from count h = cond (eqb tasks 0) count (length (unfolded s tasks from h))

-- 12, then the job records, then 2.
unfoldable pub job_records : (file : List ℕ) (devices tasks from at horizon : ℕ) → ℕ
job_records s n tasks from at h =
    cond (ltb 16 (count_of s tasks from (byte_at s at) h)) 12
    (or_else (records_fault s (JobRecords n h) (byte_at s at) (at + 1))
    (cond (ltb (at + 1 + byte_at s at * 7) (length s)) 2
    0))

-- Once the job count is there: 11, 10, and what follows them (rule 15).
unfoldable pub job_section : (file : List ℕ) (devices tasks from at : ℕ) → ℕ
job_section s n tasks from at =
    cond (leb (length s) at) 1
    (cond (mixed tasks (pair_at s 0) (byte_at s at)) 11
    (cond (eqb (horizon_of s tasks from) 0) 10
    (cond (ltb 4096 (horizon_of s tasks from)) 10
    (job_records s n tasks from at (horizon_of s tasks from)))))

unfoldable pub task_section : List ℕ → ℕ → ℕ → ℕ
task_section s n at =
    cond (leb (length s) at) 1
    (cond (ltb 8 (byte_at s at)) 6
    (or_else (records_fault s (TaskRecords n) (byte_at s at) (at + 1))
    (job_section s n (byte_at s at) (at + 1) (at + 1 + byte_at s at * 5))))

-- The refusal number, 0 for none, of what follows the mark of a file of a kind.
unfoldable pub fault_as : Kind → List ℕ → ℕ
fault_as k s =
    cond (ltb (length s) 3) 1
    (cond (ltb 8 (byte_at s 2)) 3
    (or_else (records_fault s (DeviceRecords k) (byte_at s 2) 3)
    (task_section s (byte_at s 2) (tasks_place k s))))

-- ---- what a file without a fault says, after the mark of its kind

abbrev pub horizon_in : Kind → List ℕ → ℕ
horizon_in k s = horizon_of s (task_count k s) (tasks_place k s + 1)

-- A request with tasks is a round that is repeated for ever; one without is a list, though it may name no job (rule 85).
abbrev pub round_in : Kind → List ℕ → Bool
round_in k s = ltb 0 (task_count k s)

-- Rows write a sleep as the digit of its level where the file is of the third kind (rule 82).
abbrev pub sleeps_in : Kind → Sleeps
sleeps_in First = Plain
sleeps_in Second = Plain
sleeps_in Third = Numbered

abbrev pub devices_in : Kind → List ℕ → List Device
devices_in k s = up_to (λ i. device_of (device_at k s (device_place k s i))) (byte_at s 2)

abbrev pub jobs_in : Kind → List ℕ → List Job
jobs_in k s = jobs_of s (task_count k s) (tasks_place k s + 1) (jobs_place k s)

-- A list of devices and one of jobs in their arrays. The places that hold none are all 0.
abbrev pub vacant_device : Device
vacant_device = record { shut = 0; wake = 0; pw = 0; pd = 0; pu = 0; levels = 0; powers = replicate 4 0 }

abbrev pub vacant_job : Job
vacant_job = record { release = 0; deadline = 0; run = 0; uses = replicate 8 false }

abbrev pub devices_held : List Device → Devices
devices_held l = record { count = length l; list = padded 8 vacant_device l }

abbrev pub jobs_held : List Job → Jobs
jobs_held l = record { count = length l; list = padded 16 vacant_job l }

unfoldable pub recorder_as : Kind → List ℕ → Recorder
recorder_as k s = record { horizon = horizon_in k s; round = round_in k s; sleeps = sleeps_in k; devices = devices_held (devices_in k s); jobs = jobs_held (jobs_in k s) }

-- The reading of a kind, and that of a file: by its own kind (rule 75).
unfoldable pub read_as : Kind → List ℕ → Reading
read_as k s = cond (eqb (fault_as k s) 0) (accepted (recorder_as k s)) (refused (fault_as k s))

abbrev pub recorder_in : List ℕ → Recorder
recorder_in s = recorder_as (kind_of s) (body_of s)

unfoldable pub read_of : List ℕ → Reading
read_of s = read_as (kind_of s) (body_of s)

-- The reading that the code gives: a recorder, or the reason of the refusal.
abbrev pub reading_in : Result Recorder Reason → Reading
reading_in (Ok R) = accepted R
reading_in (Err e) = refused (number_of e)
