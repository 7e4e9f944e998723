-- The recorder laid flat: twenty rows of sixteen numbers, which the search lends, so that nothing of it is copied at a vertex.
-- Rows 0 to 2 hold each job's release, deadline and running time; rows 3 to 10, one for each device, 1 for a job that uses it and 0 for another;
-- rows 11 to 18, one for each device, its figures in their order, of which the times of its moves and its number of levels have one byte each; row 19 the horizon,
-- the numbers of jobs and of devices, 1 for a round, and 1 where sleeps are numbered.
use Rattle.std.specs.Prelude.{Bool, true, false, cond, List, ℕ, ◌+◌, ◌-◌, ◌*◌, ◌%◌, eqb, ltb, get_or}
use Rattle.base.specs.Lists.{up_to}
use Rattle.device.specs.declared.Device.{Device}
use Rattle.device.specs.declared.Sleeps.{Sleeps}
use Rattle.device.specs.declared.Sleeps.TheVariants.{Plain, Numbered}
use Rattle.schedule.specs.declared.Job.{Job}
use Rattle.schedule.specs.declared.Recorder.{Recorder}
use Rattle.schedule.specs.Quantities.{job, device}

abbrev pub cell : List ℕ → ℕ → ℕ → ℕ
cell l i k = get_or l (16 * i + k) 0

unfoldable pub job_column : List ℕ → ℕ → Job
job_column l j = record { release = cell l 0 j; deadline = cell l 1 j; run = cell l 2 j; uses = up_to (λ k. eqb (cell l (3 + k) j) 1) 8 }

unfoldable pub device_row : List ℕ → ℕ → Device
device_row l k =
    record {
      shut = cell l (11 + k) 0 % 256;
      wake = cell l (11 + k) 1 % 256;
      pw = cell l (11 + k) 2;
      pd = cell l (11 + k) 3;
      pu = cell l (11 + k) 4;
      levels = cell l (11 + k) 5 % 256;
      powers = up_to (λ i. cell l (11 + k) (6 + i)) 4;
    }

unfoldable pub numbered : Sleeps → Bool
numbered Plain = false
numbered Numbered = true

unfoldable pub sleeps_by : Bool → Sleeps
sleeps_by false = Plain
sleeps_by true = Numbered

unfoldable pub recorder_of : List ℕ → Recorder
recorder_of l =
    record {
      horizon = cell l 19 0;
      round = eqb (cell l 19 3) 1;
      sleeps = sleeps_by (eqb (cell l 19 4) 1);
      devices = record { count = cell l 19 2; list = up_to (device_row l) 8 };
      jobs = record { count = cell l 19 1; list = up_to (job_column l) 16 };
    }

-- What a job has in its column, what a device has in its row, and what the recorder has in the last one.
unfoldable pub job_number : Job → ℕ → ℕ
job_number j i = cond (eqb i 0) j.release (cond (eqb i 1) j.deadline (cond (eqb i 2) j.run (cond (get_or j.uses (i - 3) false) 1 0)))

unfoldable pub device_number : Device → ℕ → ℕ
device_number d i =
    cond (eqb i 0) d.shut (cond (eqb i 1) d.wake (cond (eqb i 2) d.pw (cond (eqb i 3) d.pd
    (cond (eqb i 4) d.pu (cond (eqb i 5) d.levels (get_or d.powers (i - 6) 0))))))

unfoldable pub own_number : Recorder → ℕ → ℕ
own_number R i =
    cond (eqb i 0) R.horizon (cond (eqb i 1) R.jobs.count (cond (eqb i 2) R.devices.count
    (cond (eqb i 3) (cond R.round 1 0) (cond (numbered R.sleeps) 1 0))))

-- What lay_flat writes in a row and a column.
unfoldable pub number_of : Recorder → ℕ → ℕ → ℕ
number_of R i k =
    cond (ltb i 11) (job_number (job R k) i)
    (cond (ltb i 19) (cond (ltb k 10) (device_number (device R (i - 11)) k) 0) (own_number R k))
