-- What owning a recorder tells of it and its type does not: how long each of its lists is, and which of its numbers are bytes.
use mathlib.Core.Path.{◌≡◌}
use mathlib.Core.List.{List, [], ◌∷◌}
use Prim.Native.Nat.{ℕ, ◌<◌}
use native.Mathlib.Omega.{arith}
use lib.ListN.{length}
use mir.Val.{Val}
use base.Fml.{Fml}
use denote.Laws.{Is}
use denote.Shadow.{shadow}
use denote.Array.{each}
use Rattle.base.proofs.Every.{Every, every_at}
use Rattle.device.specs.declared.Device.{Device}
use Rattle.device.specs.contracts.Device.{the_row as device-row}
use Rattle.schedule.specs.declared.Job.{Job}
use Rattle.schedule.specs.declared.Recorder.{Recorder}
use Rattle.schedule.specs.Quantities.{job, device, no_job, no_device}
use Rattle.schedule.specs.contracts.Job.{the_row as job-row}
use Rattle.schedule.specs.contracts.Recorder.{the_row}

-- ---- an array

-- What owning one element tells holds of each.
each_every :
    {X : Type 0} (own : X → List Val → Fml) (P : X → Type 0) → ((x : X) (vs : List Val) → shadow (own x vs) → P x)
    → (xs : List X) (us : List Val) → shadow (each X own xs us) → Every P xs
each_every own P h [] us p = tt
each_every own P h (x ∷ xs) [] p = absurd p
each_every own P h (x ∷ xs) (u ∷ us) p = (h x (u ∷ []) p.0, each_every own P h xs us p.1)

-- ---- a recorder
-- The relation of a struct is (the fields' machine values, (an equation, (the first field's relation, (the second's, ..)))), and that of an array
-- (the elements' machine values, ((an equation, its length), the elements' relations)): hence the paths.

job_shaped : (x : Job) (vs : List Val) → shadow (job-row.own_val x vs) → length x.uses ≡ 8
job_shaped x vs p = p.1.1.1.1.1.0.1.0.1

pub record Figures (d : Device) : Type 0 where
  pub shut_byte : d.shut < 256
  pub wake_byte : d.wake < 256
  pub levels_byte : d.levels < 256
  pub powers_long : length d.powers ≡ 4

device_shaped : (x : Device) (vs : List Val) → shadow (device-row.own_val x vs) → Figures x
device_shaped x vs p = record {
  shut_byte = p.1.1.0.1;
  wake_byte = p.1.1.1.0.1;
  levels_byte = p.1.1.1.1.1.1.1.0.1;
  powers_long = p.1.1.1.1.1.1.1.1.0.1.0.1;
}

pub record Shaped (R : Recorder) : Type 0 where
  pub jobs_long : length R.jobs.list ≡ 16
  pub uses_long : (j : ℕ) → j < 16 → length (job R j).uses ≡ 8
  pub devices_long : length R.devices.list ≡ 8
  pub figures : (k : ℕ) → k < 8 → Figures (device R k)

pub recorder_shaped : (R : Recorder) (vs : List Val) → Is the_row R vs → Shaped R
recorder_shaped R vs p =
    let ds = p.1.1.1.1.1.0.1.1.1.0 in
    let js = p.1.1.1.1.1.1.0.1.1.1.0 in
    let eight : length R.devices.list ≡ 8 = ds.1.0.1 in
    let sixteen : length R.jobs.list ≡ 16 = js.1.0.1 in
    record {
      jobs_long = sixteen;
      uses_long =
          λ j h. every_at _ R.jobs.list no_job (each_every job-row.own_val (λ x. length x.uses ≡ 8) job_shaped R.jobs.list js.0 js.1.1) j (omega arith);
      devices_long = eight;
      figures =
          λ k h. every_at _ R.devices.list no_device (each_every device-row.own_val Figures device_shaped R.devices.list ds.0 ds.1.1) k (omega arith);
    }
