-- What the code hands on of 25 and 24: the number that refuses, or 0. Contracts inside the crate cite this.
use Rattle.std.specs.Prelude.{List, ℕ, ◌<◌, get_or}
use Rattle.device.specs.Row.{no_device}
use Rattle.schedule.specs.declared.Recorder.{Recorder}
use Rattle.schedule.specs.declared.Devices.{Devices}
use Rattle.schedule.specs.Quantities.{device}
use Rattle.steps.specs.Stepping.{move_time}
use Rattle.stepper.specs.Promises.{Between, Unfit, Brief}

pub data Fitness (file : List ℕ) (R : Recorder) : ℕ → Type 0 where
  unfit : Unfit file R → Fitness file R 25
  brief : (Unfit file R → ⊥) → Brief R → Fitness file R 24
  fit : (Unfit file R → ⊥) → (Brief R → ⊥) → Fitness file R 0

-- Some device costs otherwise to move.
pub record Unlike (R : Recorder) : Type 0 where
  pub which : ℕ
  pub known : which < R.devices.count
  pub unlike : Between (device R which) → ⊥

-- A job of so many ticks is shorter than a move of some device.
pub record Outrun (ds : Devices) (run : ℕ) : Type 0 where
  pub which : ℕ
  pub known : which < ds.count
  pub outrun : run < move_time (get_or ds.list which no_device)
