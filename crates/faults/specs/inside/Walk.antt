-- What the code does: the places in turn, as a chain of tests. Nobody need believe it: proofs/Promised makes the promise of it.
use Rattle.std.specs.Prelude.{cond, List, ℕ, zero, suc, ◌+◌, ◌*◌, length, ltb, leb, eqb}
use Rattle.base.specs.Bytes.{byte_at, pair_at}
use Rattle.tables.specs.declared.Kind.{Kind}
use Rattle.tables.specs.Layout.{tasks_place}
use Rattle.request.specs.declared.Section.{Section}
use Rattle.request.specs.declared.Section.TheVariants.{DeviceRecords, TaskRecords, JobRecords}
use Rattle.request.specs.Format.{size_of, horizon_of, mixed, count_of}
use Rattle.faults.specs.declared.Place.TheVariants.{Horizon, DeviceCount, TaskCount, JobCount, End}
use Rattle.faults.specs.Places.{Judged, place_at, no_fault, record_place}

-- A place at fault, or what follows it.
abbrev pub or_next : Judged → Judged → Judged
or_next f next = cond (eqb f.number 0) next f

-- n records, from record i at a place on.
unfoldable pub records_walk : (mark : ℕ) → List ℕ → Section → (n i at : ℕ) → Judged
records_walk mark s k zero i at = no_fault
records_walk mark s k (suc n) i at = or_next (record_place mark s k i at) (records_walk mark s k n (suc i) (at + size_of s k at))

unfoldable pub jobs_walk : (mark : ℕ) → List ℕ → (n tasks from at h : ℕ) → Judged
jobs_walk mark s n tasks from at h =
    cond (ltb 16 (count_of s tasks from (byte_at s at) h)) (place_at mark JobCount at (at + 1) 12)
    (or_next (records_walk mark s (JobRecords n h) (byte_at s at) 0 (at + 1))
    (cond (ltb (at + 1 + byte_at s at * 7) (length s)) (place_at mark End (at + 1 + byte_at s at * 7) (length s) 2)
    no_fault))

unfoldable pub job_walk : (mark : ℕ) → List ℕ → (n tasks from at : ℕ) → Judged
job_walk mark s n tasks from at =
    cond (leb (length s) at) (place_at mark JobCount at (at + 1) 1)
    (cond (mixed tasks (pair_at s 0) (byte_at s at)) (place_at mark JobCount at (at + 1) 11)
    (cond (eqb (horizon_of s tasks from) 0) (place_at mark JobCount at (at + 1) 10)
    (cond (ltb 4096 (horizon_of s tasks from)) (place_at mark JobCount at (at + 1) 10)
    (jobs_walk mark s n tasks from at (horizon_of s tasks from)))))

unfoldable pub task_walk : (mark : ℕ) → List ℕ → (n at : ℕ) → Judged
task_walk mark s n at =
    cond (leb (length s) at) (place_at mark TaskCount at (at + 1) 1)
    (cond (ltb 8 (byte_at s at)) (place_at mark TaskCount at (at + 1) 6)
    (or_next (records_walk mark s (TaskRecords n) (byte_at s at) 0 (at + 1))
    (job_walk mark s n (byte_at s at) (at + 1) (at + 1 + byte_at s at * 5))))

unfoldable pub walk : (mark : ℕ) → Kind → List ℕ → Judged
walk mark k s =
    cond (ltb (length s) 2) (place_at mark Horizon 0 2 1)
    (cond (ltb (length s) 3) (place_at mark DeviceCount 2 3 1)
    (cond (ltb 8 (byte_at s 2)) (place_at mark DeviceCount 2 3 3)
    (or_next (records_walk mark s (DeviceRecords k) (byte_at s 2) 0 3)
    (task_walk mark s (byte_at s 2) (tasks_place k s)))))
