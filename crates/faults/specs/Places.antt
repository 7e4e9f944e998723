-- The place of a refusal (rules 121 to 123): the places of a file in reading order, each with its bytes and the first number of its own table, 0 for none; and
-- the first of them that is at fault. The tests are those of request/specs/Format, place by place. proofs/Only: there is one outcome for every file, and its number
-- is the one that `read_of` refuses with.
use Rattle.std.specs.Prelude.{◌≡◌, cond, List, [], ◌∷◌, ◌++◌, Option, Some, None, Result, Ok, Err, ℕ, ◌+◌, ◌*◌, length, ltb, leb, eqb}
use Rattle.base.specs.Bytes.{byte_at, pair_at}
use Rattle.base.specs.Lists.{up_to}
use Rattle.base.specs.Reasons.{number_of}
use Rattle.base.specs.Refusals.{◌⇒◌, first_that}
use Rattle.schedule.specs.declared.Recorder.{Recorder}
use Rattle.tables.specs.declared.Kind.{Kind}
use Rattle.tables.specs.declared.Tables.{Tables}
use Rattle.tables.specs.Layout.{marker, kind_of, body_of, layout_of, device_place, tasks_place, task_count, jobs_place}
use Rattle.request.specs.declared.Section.{Section}
use Rattle.request.specs.declared.Section.TheVariants.{DeviceRecords, TaskRecords, JobRecords}
use Rattle.request.specs.Format.{size_of, head_of, record_fault, horizon_in, mixed, count_of, read_as}
use Rattle.request.specs.Format as Format
use Rattle.faults.specs.declared.Place.{Place}
use Rattle.faults.specs.declared.Place.TheVariants.{Horizon, DeviceCount, Device, TaskCount, Task, JobCount, Job, End}
use Rattle.faults.specs.declared.PlaceFault.{PlaceFault}

-- ---- one place

-- A place that is judged, with the number that it is refused for, 0 for none, and its bytes: from the first up to, not including, the second.
pub record Judged : Type 0 where
  pub number : ℕ
  pub place : Option Place
  pub from : ℕ
  pub to : ℕ

-- A place of a file, from a byte up to another, both counted from the first byte after a mark of so many.
unfoldable pub place_at : (mark : ℕ) → Place → (from to number : ℕ) → Judged
place_at mark p from to number = record { number = number; place = Some p; from = mark + from; to = mark + to }

abbrev pub no_fault : Judged
no_fault = record { number = 0; place = None; from = 0; to = 0 }

-- What the code gives: a place at fault, or that there is none.
abbrev pub at_fault : PlaceFault → Judged
at_fault f = record { number = number_of f.reason; place = Some f.place; from = f.from; to = f.to }

abbrev pub judged : Result (Unit {0}) PlaceFault → Judged
judged (Ok u) = no_fault
judged (Err f) = at_fault f

-- Record i of a section.
unfoldable pub place_of : Section → ℕ → Place
place_of (DeviceRecords k) i = Device i
place_of (TaskRecords n) i = Task i
place_of (JobRecords n h) i = Job i

-- The bytes of a record that are called for when it is refused by a number, there or not: 4 and 26 come before the powers that a level count calls for (rule 83),
-- and every other number when all of it is called for.
unfoldable pub called_for : List ℕ → Section → (at number : ℕ) → ℕ
called_for s k at number = cond (eqb number 4) (head_of k) (cond (eqb number 26) (head_of k) (size_of s k at))

unfoldable pub record_place : (mark : ℕ) → List ℕ → Section → (i at : ℕ) → Judged
record_place mark s k i at = place_at mark (place_of k i) at (at + called_for s k at (record_fault s k at)) (record_fault s k at)

-- ---- the places in reading order, of what follows a mark of so many bytes in a file of a kind

-- The horizon is only called for here: it is judged with the job count (rule 15).
unfoldable pub head_places : (mark : ℕ) → List ℕ → List Judged
head_places mark s =
    place_at mark Horizon 0 2 (first_that ((ltb (length s) 2 ⇒ 1) ∷ []))
    ∷ place_at mark DeviceCount 2 3 (first_that ((ltb (length s) 3 ⇒ 1) ∷ (ltb 8 (byte_at s 2) ⇒ 3) ∷ []))
    ∷ []

abbrev pub device_places : (mark : ℕ) → Kind → List ℕ → List Judged
device_places mark k s = up_to (λ i. record_place mark s (DeviceRecords k) i (device_place k s i)) (byte_at s 2)

-- `at` is the place of the count.
unfoldable pub task_count_place : (mark : ℕ) → List ℕ → ℕ → Judged
task_count_place mark s at = place_at mark TaskCount at (at + 1) (first_that ((leb (length s) at ⇒ 1) ∷ (ltb 8 (byte_at s at) ⇒ 6) ∷ []))

abbrev pub task_places : (mark : ℕ) → Kind → List ℕ → List Judged
task_places mark k s = up_to (λ i. record_place mark s (TaskRecords (byte_at s 2)) i (tasks_place k s + 1 + i * 5)) (task_count k s)

-- 11, 10 and 12 are told at the job count, with which they are judged: `from` is the place of the first task's record, h the horizon, given or worked out.
unfoldable pub job_count_place : (mark : ℕ) → List ℕ → (tasks from at h : ℕ) → Judged
job_count_place mark s tasks from at h =
    place_at mark JobCount at (at + 1)
    (first_that (
    (leb (length s) at ⇒ 1)
    ∷ (mixed tasks (pair_at s 0) (byte_at s at) ⇒ 11)
    ∷ (eqb h 0 ⇒ 10)
    ∷ (ltb 4096 h ⇒ 10)
    ∷ (ltb 16 (count_of s tasks from (byte_at s at) h) ⇒ 12)
    ∷ []))

abbrev pub job_places : (mark : ℕ) → Kind → List ℕ → List Judged
job_places mark k s = up_to (λ j. record_place mark s (JobRecords (byte_at s 2) (horizon_in k s)) j (jobs_place k s + 1 + j * 7)) (byte_at s (jobs_place k s))

-- What follows the last job record, up to the end of the file.
unfoldable pub end_place : (mark : ℕ) → List ℕ → ℕ → Judged
end_place mark s at = place_at mark End at (length s) (first_that ((ltb at (length s) ⇒ 2) ∷ []))

unfoldable pub places_as : Kind → List ℕ → List Judged
places_as k s =
    let mark = length (marker k) in
    head_places mark s
    ++ (device_places mark k s
    ++ (task_count_place mark s (tasks_place k s)
    ∷ (task_places mark k s
    ++ (job_count_place mark s (task_count k s) (tasks_place k s + 1) (jobs_place k s) (horizon_in k s)
    ∷ (job_places mark k s
    ++ (end_place mark s (jobs_place k s + 1 + byte_at s (jobs_place k s) * 7) ∷ []))))))

-- ---- the promise

-- Of a list of places the first that is at fault.
pub data FirstFault (f : Judged) : List Judged → Type 0 where
  here : {l : List Judged} → (f.number ≡ 0 → ⊥) → FirstFault f (f ∷ l)
  later : {g : Judged} {l : List Judged} → g.number ≡ 0 → FirstFault f l → FirstFault f (g ∷ l)

-- Of what follows the mark of a file of a kind: nothing where it is accepted; else the number that refuses it, with the first place that is at fault.
pub data FaultAs (k : Kind) (s : List ℕ) : Judged → Type 0 where
  accepted : {R : Recorder} → read_as k s ≡ Format.accepted R → FaultAs k s no_fault
  refused : {f : Judged} → read_as k s ≡ Format.refused f.number → FirstFault f (places_as k s) → FaultAs k s f

-- ---- `fault_of`: a file by its own kind, so that `read_of` reads it

abbrev pub FaultOf : List ℕ → Judged → Type 0
FaultOf file f = FaultAs (kind_of file) (body_of file) f

-- ---- `fault_of_tables`: the file that tables make, by their own kind, as the writer judges it (planner/specs/Promises: `Written`)

abbrev pub TablesFault : Tables → Judged → Type 0
TablesFault T f = FaultAs T.kind (layout_of T) f

-- ---- a place as two numbers: what it is, and the number of the device, the task or the job, 0 elsewhere

abbrev pub code_of : Place → ℕ
code_of Horizon = 1
code_of DeviceCount = 2
code_of (Device i) = 3
code_of TaskCount = 4
code_of (Task i) = 5
code_of JobCount = 6
code_of (Job i) = 7
code_of End = 8

abbrev pub record_of : Place → ℕ
record_of Horizon = 0
record_of DeviceCount = 0
record_of (Device i) = i
record_of TaskCount = 0
record_of (Task i) = i
record_of JobCount = 0
record_of (Job i) = i
record_of End = 0
