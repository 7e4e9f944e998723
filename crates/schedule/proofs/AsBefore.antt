-- What the round without a seam leaves as it was, and what it saves: a list has the rows, the energy and the floor that it had; a round costs no more than as a list.
use mathlib.Core.Path.{◌≡◌, ap}
use mathlib.Core.Bool.{Bool, false, cond}
use mathlib.Core.List.{List}
use Prim.Native.Nat.{ℕ, ◌+◌, ◌-◌, ◌*◌, ◌≤◌}
use native.Mathlib.Nat.{mul-zero, zero-add, sub-zero}
use native.Mathlib.Omega.{arith}
use Rattle.base.specs.Sums.{total, sum}
use Rattle.base.proofs.Additions.{sum_same, sum_le}
use Rattle.base.proofs.Cases.{test_cases}
use Rattle.device.specs.Row.{deep, row_of, energy_of, pattern}
use Rattle.schedule.specs.declared.Recorder.{Recorder}
use Rattle.schedule.specs.Quantities.{device, Valid}
use Rattle.schedule.specs.Listing.{Feasible, used, uses_of, running}
use Rattle.schedule.specs.Visiting.{Vertex, plan_row, plan_energy, last_end, first_start, since, ticks, device_floor, floor}
use Rattle.schedule.proofs.Runs.{full_in_turn, feasible_run}
use Rattle.schedule.proofs.Gaps.{uses_running}
use Rattle.schedule.proofs.Rounds.{round_saves}

module _ (R : Recorder) where
  -- The energy of a plan, each row by itself from work to work.
  abbrev pub list_energy : List ℕ → ℕ
  list_energy s = sum R.devices.count (λ k. energy_of false (device R k) (uses_of R s k))

  -- The floor of a device in which the ticks before its first use are a gap of their own.
  abbrev pub list_floor : ℕ → Vertex → ℕ
  list_floor k v =
      let e = last_end R k 0 v.placed in
      let ahead = total (ticks R k) v.unplaced in
      energy_of false (device R k) (pattern (used R k v.placed) 0 e) + ((device R k).pw * ahead + deep (device R k) * (R.horizon - e - ahead))

  -- ---- a list is planned as before

  module _ (list : R.round ≡ false) where
    pub row_as_before : (s : List ℕ) (k : ℕ) → plan_row R s k ≡ row_of false (device R k) (uses_of R s k)
    row_as_before s k = ap (λ (b : Bool). row_of b (device R k) (uses_of R s k)) list

    pub energy_as_before : (s : List ℕ) → plan_energy R s ≡ list_energy s
    unfolding plan_energy
    energy_as_before s =
        sum_same R.devices.count (λ k. energy_of R.round (device R k) (uses_of R s k)) (λ k. energy_of false (device R k) (uses_of R s k))
        (λ k l. ap (λ (b : Bool). energy_of b (device R k) (uses_of R s k)) list)

    since_start : (k : ℕ) (v : Vertex) → since R k v.placed ≡ 0
    unfolding since
    since_start k v = ap (λ (b : Bool). cond b (first_start R k v.placed) 0) list

    device_as_before : (k : ℕ) (v : Vertex) → device_floor R k v ≡ list_floor k v
    unfolding device_floor
    device_as_before k v = rw (since_start k v, sub-zero, mul-zero, zero-add)

    pub floor_as_before : (v : Vertex) → floor R v ≡ sum R.devices.count (λ k. list_floor k v)
    unfolding floor
    floor_as_before v = sum_same R.devices.count (λ k. device_floor R k v) (λ k. list_floor k v) (λ k l. device_as_before k v)

  -- ---- a round costs no more

  pub never_dearer : Valid R → (s : List ℕ) → Feasible R s → plan_energy R s ≤ list_energy s
  unfolding plan_energy
  never_dearer valid s f =
      sum_le R.devices.count (λ k. energy_of R.round (device R k) (uses_of R s k)) (λ k. energy_of false (device R k) (uses_of R s k))
      (λ k l. test_cases (λ (b : Bool). energy_of b (device R k) (uses_of R s k) ≤ energy_of false (device R k) (uses_of R s k)) R.round
      (λ q. rw (uses_running R k s) (round_saves R k (running R s) (full_in_turn R valid (running R s) (feasible_run R valid s f)) (valid.sound k l)))
      (λ q. omega arith))
