-- A recorder without its devices.
use Rattle.std.specs.Prelude.{◌≡◌, false, ℕ, ◌<◌, replicate}
use Rattle.schedule.specs.declared.Job.{Job}
use Rattle.schedule.specs.declared.Recorder.{Recorder}
use Rattle.schedule.specs.Quantities.{jobs, release, deadline, run, uses}

-- The same job, which uses no device.
abbrev pub idle_job : Job → Job
idle_job j = record { release = j.release; deadline = j.deadline; run = j.run; uses = replicate 8 false }

-- Q has the horizon of R and its jobs, and no device.
pub record Bare (R Q : Recorder) : Type 0 where
  pub horizon : Q.horizon ≡ R.horizon
  pub count : jobs Q ≡ jobs R
  pub releases : (j : ℕ) → release Q j ≡ release R j
  pub deadlines : (j : ℕ) → deadline Q j ≡ deadline R j
  pub runs : (j : ℕ) → run Q j ≡ run R j
  pub none : Q.devices.count ≡ 0
  pub unused : (j k : ℕ) → j < jobs R → uses Q k j ≡ false
