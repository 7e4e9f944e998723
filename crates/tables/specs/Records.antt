-- The records of a request file, each read from its bytes and laid out as them (rules 11 to 13, 76 and 81). A number of two bytes has its high byte first (rule 10).
use Rattle.std.specs.Prelude.{ℕ, ◌+◌, ◌*◌, min, cond, List, [], ◌∷◌, ◌++◌, ltb}
use Rattle.base.specs.Bytes.{byte_at, pair_at, pair_bytes}
use Rattle.tables.specs.declared.Kind.{Kind}
use Rattle.tables.specs.declared.Kind.TheVariants.{First, Second, Third}
use Rattle.tables.specs.declared.DeviceRecord.{DeviceRecord}
use Rattle.tables.specs.declared.TaskRecord.{TaskRecord}
use Rattle.tables.specs.declared.JobRecord.{JobRecord}

-- A device of which both moves take the same time at the same power, with its sleep levels; and one that has one level.
abbrev pub leveled : (T Pw P0 levels Ps Ps2 Ps3 Ps4 : ℕ) → DeviceRecord
leveled T Pw P0 levels Ps Ps2 Ps3 Ps4 =
    record { wake = T; shut = T; pw = Pw; ps = Ps; pwake = P0; pshut = P0; levels = levels; ps2 = Ps2; ps3 = Ps3; ps4 = Ps4 }

abbrev pub averaged : (T Pw Ps P0 : ℕ) → DeviceRecord
averaged T Pw Ps P0 = leveled T Pw P0 1 Ps 0 0 0

-- In a file of the first kind a device has seven bytes: its transition time, then its powers working, asleep and moving (rule 11).
abbrev pub first_at : List ℕ → ℕ → DeviceRecord
first_at s at = averaged (byte_at s at) (pair_at s (at + 1)) (pair_at s (at + 3)) (pair_at s (at + 5))

abbrev pub first_bytes : DeviceRecord → List ℕ
first_bytes d = (d.wake ∷ []) ++ (pair_bytes d.pw ++ (pair_bytes d.ps ++ pair_bytes d.pwake))

-- In one of the second kind ten: the times of waking and of shutting down, its powers working and asleep, then those of waking and of shutting down (rule 76).
abbrev pub second_at : List ℕ → ℕ → DeviceRecord
second_at s at =
    record {
      wake = byte_at s at;
      shut = byte_at s (at + 1);
      pw = pair_at s (at + 2);
      ps = pair_at s (at + 4);
      pwake = pair_at s (at + 6);
      pshut = pair_at s (at + 8);
      levels = 1;
      ps2 = 0;
      ps3 = 0;
      ps4 = 0;
    }

abbrev pub second_bytes : DeviceRecord → List ℕ
second_bytes d = (d.wake ∷ d.shut ∷ []) ++ (pair_bytes d.pw ++ (pair_bytes d.ps ++ (pair_bytes d.pwake ++ pair_bytes d.pshut)))

-- In one of the third kind six and two for each sleep level: its transition time, its powers working and moving, how many levels there are, then the power of
-- each, the shallowest first (rule 81). There are at most four powers, whatever the count.
abbrev pub power_of : (levels i power : ℕ) → ℕ
power_of levels i power = cond (ltb i levels) power 0

abbrev pub third_at : List ℕ → ℕ → DeviceRecord
third_at s at =
    let n = byte_at s (at + 5) in
    leveled (byte_at s at) (pair_at s (at + 1)) (pair_at s (at + 3)) n
    (power_of n 0 (pair_at s (at + 6))) (power_of n 1 (pair_at s (at + 8))) (power_of n 2 (pair_at s (at + 10))) (power_of n 3 (pair_at s (at + 12)))

abbrev pub power_bytes : (levels i power : ℕ) → List ℕ
power_bytes levels i power = cond (ltb i levels) (pair_bytes power) []

abbrev pub powers_bytes : DeviceRecord → List ℕ
powers_bytes d =
    power_bytes d.levels 0 d.ps ++ (power_bytes d.levels 1 d.ps2 ++ (power_bytes d.levels 2 d.ps3 ++ power_bytes d.levels 3 d.ps4))

abbrev pub third_bytes : DeviceRecord → List ℕ
third_bytes d = (d.wake ∷ []) ++ (pair_bytes d.pw ++ (pair_bytes d.pwake ++ ((d.levels ∷ []) ++ powers_bytes d)))

-- By kind: the record that stands at a place, how many bytes it has, and its bytes.
abbrev pub device_at : Kind → List ℕ → ℕ → DeviceRecord
device_at First s at = first_at s at
device_at Second s at = second_at s at
device_at Third s at = third_at s at

abbrev pub device_size : Kind → List ℕ → ℕ → ℕ
device_size First s at = 7
device_size Second s at = 10
device_size Third s at = 6 + 2 * min (byte_at s (at + 5)) 4

abbrev pub device_bytes : Kind → DeviceRecord → List ℕ
device_bytes First d = first_bytes d
device_bytes Second d = second_bytes d
device_bytes Third d = third_bytes d

-- What a file of a kind tells of a record.
abbrev pub told : Kind → DeviceRecord → DeviceRecord
told First d = averaged d.wake d.pw d.ps d.pwake
told Second d =
    record {
      wake = d.wake;
      shut = d.shut;
      pw = d.pw;
      ps = d.ps;
      pwake = d.pwake;
      pshut = d.pshut;
      levels = 1;
      ps2 = 0;
      ps3 = 0;
      ps4 = 0;
    }
told Third d =
    let n = d.levels in
    leveled d.wake d.pw d.pwake n (power_of n 0 d.ps) (power_of n 1 d.ps2) (power_of n 2 d.ps3) (power_of n 3 d.ps4)

-- A task's five: its period, its running time, its device set (rule 12).
abbrev pub task_at : List ℕ → ℕ → TaskRecord
task_at s at = record { period = pair_at s at; run = pair_at s (at + 2); set = byte_at s (at + 4) }

abbrev pub task_bytes : TaskRecord → List ℕ
task_bytes k = pair_bytes k.period ++ (pair_bytes k.run ++ (k.set ∷ []))

-- A job's seven: its release, its deadline, its running time, its device set (rule 13).
abbrev pub job_at : List ℕ → ℕ → JobRecord
job_at s at = record { release = pair_at s at; deadline = pair_at s (at + 2); run = pair_at s (at + 4); set = byte_at s (at + 6) }

abbrev pub job_bytes : JobRecord → List ℕ
job_bytes j = pair_bytes j.release ++ (pair_bytes j.deadline ++ (pair_bytes j.run ++ (j.set ∷ [])))

-- What a number past the end of a table stands for.
abbrev pub blank_device : DeviceRecord
blank_device = averaged 0 0 0 0

abbrev pub blank_task : TaskRecord
blank_task = record { period = 0; run = 0; set = 0 }

abbrev pub blank_job : JobRecord
blank_job = record { release = 0; deadline = 0; run = 0; set = 0 }
