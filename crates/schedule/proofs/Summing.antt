-- The energy of the devices so far, as a loop over the devices adds it up.
use mathlib.Core.Path.{◌≡◌, refl, ap, ◌∙◌}
use mathlib.Core.List.{List}
use Prim.Native.Nat.{ℕ, ◌+◌, ◌*◌, ◌≤◌, ◌<◌}
use native.Mathlib.Omega.{arith}
use Rattle.base.specs.Sums.{sum}
use Rattle.base.proofs.Additions.{sum_more}
use Rattle.device.specs.declared.Uses.{Uses}
use Rattle.device.specs.Row.{energy_of, pattern}
use Rattle.device.specs.inside.Uses.{used_in}
use Rattle.schedule.specs.declared.Recorder.{Recorder}
use Rattle.schedule.specs.Quantities.{device, Valid}
use Rattle.schedule.specs.Listing.{uses_of}
use Rattle.schedule.specs.inside.Using.{UsesGathered}
use Rattle.schedule.specs.Visiting.{plan_energy}
use Rattle.schedule.proofs.Bounds.{device_most_lem, devices_more}
use Rattle.schedule.proofs.Usage.{pattern_uses}

module _ (R : Recorder) (s : List ℕ) where
  -- The energy of the first k devices, and a bound on it that grows with k.
  pub record Summed (k made : ℕ) : Type 0 where
    pub is : made ≡ sum k (λ i. energy_of R.round (device R i) (uses_of R s i))
    pub most : made ≤ 268431360 * k

  pub summed_none : Summed 0 0
  summed_none = record { is = refl; most = omega arith }

  -- One device more, with its uses: the sum fits in 32 bits.
  pub summed_more : Valid R → (k made e : ℕ) (u : Uses) → Summed k made → k < R.devices.count → UsesGathered R s k u
      → (e ≡ energy_of R.round (device R k) (pattern (used_in u) 0 R.horizon)) × (e ≤ 65535 * R.horizon)
      → (made + e ≤ 2147450880) × Summed (k + 1) (made + e)
  summed_more valid k made e u so l o least =
      let here : e ≡ energy_of R.round (device R k) (uses_of R s k) = least.0 ∙ ap (energy_of R.round (device R k)) (pattern_uses o) in
      let fits = devices_more made k e so.most (omega (arith, valid.few_devices)) (device_most_lem e R.horizon least.1 valid.few_ticks) in
      (fits.1, record { is = omega (arith, here, so.is, sum_more k (λ i. energy_of R.round (device R i) (uses_of R s i))); most = fits.0 })

  -- All of them make the plan's energy.
  pub summed_all : (made : ℕ) → Summed R.devices.count made → made ≡ plan_energy R s
  unfolding plan_energy
  summed_all made so = so.is
