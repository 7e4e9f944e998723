-- What the code keeps and knows on the way. Nobody need believe these: no contract of a public function speaks of them.
use Rattle.std.specs.Prelude.{ℕ, ◌+◌, ◌*◌, ◌%◌, ◌<◌, ◌≤◌, min, List, cond, length, take, set, ltb, eqb}
use Rattle.base.specs.Bytes.{pair_at}
use Rattle.base.specs.Lists.{padded}
use Rattle.schedule.specs.declared.Job.{Job}
use Rattle.schedule.specs.declared.Jobs.{Jobs}
use Rattle.tables.specs.declared.TaskRecord.{TaskRecord}
use Rattle.request.specs.Format.{vacant_job, job_of}

-- n tasks whose records begin at a place: they are there, and each period is from 1 to 4,096.
pub record SoundTasks (s : List ℕ) (n from : ℕ) : Type 0 where
  pub there : from + n * 5 ≤ length s
  pub periods : (i : ℕ) → i < n → (0 < pair_at s (from + i * 5)) × (pair_at s (from + i * 5) ≤ 4096)

-- A list of jobs in an array of 16: as many as fit, with its count capped. A file that is accepted has at most 16 jobs, and there it is that list in its array
-- (proofs/Packed).
unfoldable pub packed : List Job → Jobs
packed l = record { count = min (length l) 17; list = padded 16 vacant_job (take 16 l) }

-- One job more.
unfoldable pub pushed : Jobs → Job → Jobs
pushed js j =
    cond (ltb js.count 16)
    (record { count = js.count + 1; list = set js.list js.count j })
    (record { count = 17; list = js.list })

-- With what a task releases at t.
unfoldable pub released_to : Jobs → TaskRecord → ℕ → Jobs
released_to js k t = cond (eqb (t % k.period) 0) (pushed js (job_of k t)) js
