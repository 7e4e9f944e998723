-- The devices and jobs of a recorder, by number, and their ranges (docs/RULES.md, rules 1 to 6).
use Rattle.std.specs.Prelude.{◌≡◌, Bool, false, [], ℕ, ◌+◌, ◌≤◌, ◌<◌, get_or}
use Rattle.device.specs.declared.Device.{Device}
use Rattle.device.specs.Row.{Sound}
pub use Rattle.device.specs.Row.{no_device}
use Rattle.schedule.specs.declared.Job.{Job}
use Rattle.schedule.specs.declared.Recorder.{Recorder}

-- What a number past the end of the jobs stands for; past the end of the devices it is device's own `no_device`.
abbrev pub no_job : Job
no_job = record { release = 0; deadline = 0; run = 0; uses = [] }

abbrev pub job : Recorder → ℕ → Job
job R j = get_or R.jobs.list j no_job

abbrev pub device : Recorder → ℕ → Device
device R k = get_or R.devices.list k no_device

-- The number of jobs; and of job j the release a, the deadline d and the running time c.
abbrev pub jobs : Recorder → ℕ
jobs R = R.jobs.count

abbrev pub release : Recorder → ℕ → ℕ
release R j = (job R j).release

abbrev pub deadline : Recorder → ℕ → ℕ
deadline R j = (job R j).deadline

abbrev pub run : Recorder → ℕ → ℕ
run R j = (job R j).run

-- Job j uses device k.
abbrev pub uses : Recorder → ℕ → ℕ → Bool
uses R k j = get_or (job R j).uses k false

-- The ranges, from 1 on and up to what the fields hold: every recorder that a file gives is valid (request/proofs).
pub record Valid (R : Recorder) : Type 0 where
  pub some_tick : 1 ≤ R.horizon
  pub few_ticks : R.horizon ≤ 4096
  pub few_devices : R.devices.count ≤ 8
  pub sound : (k : ℕ) → k < R.devices.count → Sound (device R k)
  pub few_jobs : jobs R ≤ 16
  pub runs : (j : ℕ) → j < jobs R → 1 ≤ run R j
  pub fits : (j : ℕ) → j < jobs R → release R j + run R j ≤ deadline R j
  pub ends : (j : ℕ) → j < jobs R → deadline R j ≤ R.horizon
  pub known : (j k : ℕ) → j < jobs R → R.devices.count ≤ k → uses R k j ≡ false
