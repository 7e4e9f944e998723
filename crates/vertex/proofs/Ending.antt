-- What a device adds before a job, and at least before one that starts later; and the root's floor.
use mathlib.Core.Path.{◌≡◌, sym, ap, ◌∙◌}
use mathlib.Core.Bool.{Bool, true, false, cond}
use mathlib.Core.List.{List}
use Prim.Native.Nat.{ℕ, ◌-◌, ◌≤◌, ◌<◌}
use native.Mathlib.Omega.{arith}
use Rattle.base.specs.Sums.{sum}
use Rattle.base.proofs.Additions.{sum_same, sum_le}
use Rattle.schedule.specs.declared.Recorder.{Recorder}
use Rattle.schedule.specs.Quantities.{Valid, device, jobs, uses}
use Rattle.schedule.specs.Visiting.{root, floor}
use Rattle.latest.specs.inside.Sparing.{set_of}
use Rattle.keys.specs.inside.Keys.{extra}
use Rattle.keys.proofs.Rises.{floor_root}
use Rattle.extras.specs.inside.Tabled.{Tabled, least_from}
use Rattle.vertex.specs.inside.Gaps.{gap_at, gap_by, gaps_by}
use Rattle.vertex.specs.inside.Shown.{end_at, fresh, lead_by, leads_by, idle_floor, Shows}

module _ (R : Recorder) (l : List ℕ) where
  -- ---- before a job

  module _ (x : List ℕ) (later : Bool) where
    -- A device that the job does not use adds nothing.
    pub gap_none : (j s k : ℕ) → uses R k j ≡ false → gap_by R x l later j s k ≡ 0
    unfolding gap_by
    gap_none j s k u = rw u

    -- One that it uses adds what the table says.
    pub gap_used : Tabled R x → (j s k y : ℕ) → k < R.devices.count → uses R k j ≡ true → s ≤ R.horizon
        → y ≡ cond (fresh R l k) 0 (gap_at x later k (s - end_at l k)) → (y ≡ gap_by R x l later j s k) × (y ≤ 268431360)
    unfolding gap_by
    gap_used t j s k y b u m e = (rw u e, go (fresh R l k) later e)
      where
        go : (f z : Bool) → y ≡ cond f 0 (gap_at x z k (s - end_at l k)) → y ≤ 268431360
        go true z h = omega arith
        go false true h =
            omega (arith, h, t.leasts k (s - end_at l k) (s - end_at l k) b (omega arith) (omega arith), t.extra_most k (s - end_at l k) b (omega arith))
        go false false h = omega (arith, h, t.extras k (s - end_at l k) b (omega arith), t.extra_most k (s - end_at l k) b (omega arith))

  -- Where it starts at s the sum is what it adds,
  pub gaps_lead : (x : List ℕ) → Tabled R x → (j s : ℕ) → s ≤ R.horizon → gaps_by R x l false j s ≡ leads_by R l j s
  unfolding gap_by lead_by
  gaps_lead x t j s m =
      sum_same R.devices.count (gap_by R x l false j s) (lead_by R l j s)
      (λ k b. ap (λ (y : ℕ). cond (uses R k j) (cond (fresh R l k) 0 y) 0) (t.extras k (s - end_at l k) b (omega arith)))

  -- and no later start adds less than the least.
  pub gaps_least : (x : List ℕ) → Tabled R x → (j s t : ℕ) → s ≤ t → t ≤ R.horizon → gaps_by R x l true j s ≤ leads_by R l j t
  unfolding gap_by lead_by
  gaps_least x tabled j s t a m = sum_le R.devices.count (gap_by R x l true j s) (lead_by R l j t) (λ k b. go k b (uses R k j) (fresh R l k))
    where
      go : (k : ℕ) → k < R.devices.count → (u f : Bool)
          → cond u (cond f 0 (least_from x k (s - end_at l k))) 0 ≤ cond u (cond f 0 (extra (device R k) (t - end_at l k))) 0
      go k b false f = omega arith
      go k b true true = omega arith
      go k b true false = tabled.leasts k (s - end_at l k) (t - end_at l k) b (omega arith) (omega arith)

  -- ---- the root's floor

  pub floor_idle : Valid R → Shows R l (set_of (root R).unplaced) (jobs R) (root R) → sum R.devices.count (idle_floor R l) ≡ floor R (root R)
  unfolding idle_floor
  floor_idle valid h =
      sum_same R.devices.count (idle_floor R l) _ (λ k b. rw (h.aheads k b)) ∙ sym (floor_root R valid)
