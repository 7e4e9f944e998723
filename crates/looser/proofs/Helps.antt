-- What is feasible stays feasible in wider windows, at the same cost; so the least cost is no higher.
use mathlib.Core.Path.{◌≡◌, refl, ap, ◌∙◌, subst}
use mathlib.Core.Bool.{Bool}
use mathlib.Core.List.{List, [], ◌∷◌}
use Prim.Native.Nat.{ℕ, ◌≤◌, ◌<◌}
use native.Mathlib.Omega.{arith}
use Rattle.base.specs.Lists.{up_to}
use Rattle.base.specs.Sums.{sum}
use Rattle.base.proofs.Additions.{sum_same}
use Rattle.base.proofs.Every.{Every, every_up_to}
use Rattle.device.specs.declared.Device.{Device}
use Rattle.device.specs.Row.{Letter, LeastRow, energy, pattern}
use Rattle.device.proofs.Pattern.{pattern_alike}
use Rattle.schedule.specs.declared.Recorder.{Recorder}
use Rattle.schedule.specs.Quantities.{device, jobs, release, deadline, run, uses}
use Rattle.schedule.specs.Listing.{start, Feasible, Place, place, used, places, uses_of, Rows, Costs, FirstLeast}

-- Two recorders alike but for the windows of their jobs, those of R' being no narrower.
pub record Widened (R R' : Recorder) : Type 0 where
  pub same_horizon : R.horizon ≡ R'.horizon
  pub same_round : R.round ≡ R'.round
  pub as_many_devices : R.devices.count ≡ R'.devices.count
  pub same_device : (k : ℕ) → k < R.devices.count → device R k ≡ device R' k
  pub as_many_jobs : jobs R ≡ jobs R'
  pub same_run : (j : ℕ) → j < jobs R → run R j ≡ run R' j
  pub same_uses : (j k : ℕ) → j < jobs R → uses R k j ≡ uses R' k j
  pub no_later_release : (j : ℕ) → j < jobs R → release R' j ≤ release R j
  pub no_earlier_deadline : (j : ℕ) → j < jobs R → deadline R j ≤ deadline R' j

least_alike :
    (b b' : Bool) (d d' : Device) (u u' : List Bool) (r : List Letter) → b ≡ b' → d ≡ d' → u ≡ u' → LeastRow b d u r → LeastRow b' d' u' r
least_alike b b' d d' u u' r e f g h =
    subst (λ (x : Bool). LeastRow x d' u' r) e (subst (λ (x : Device). LeastRow b x u' r) f (subst (λ (x : List Bool). LeastRow b d x r) g h))

module _ (R R' : Recorder) (w : Widened R R') where
  -- What is feasible stays so.
  pub still_feasible : (s : List ℕ) → Feasible R s → Feasible R' s
  still_feasible s f =
      record {
        one_each = f.one_each ∙ w.as_many_jobs;
        released = λ j l. let k = known j l in omega (arith, f.released j k, w.no_later_release j k);
        in_time = λ j l. let k = known j l in omega (arith, f.in_time j k, w.no_earlier_deadline j k, w.same_run j k);
        apart = λ i j t l l' m m'. let k = known i l in let k' = known j l' in
            f.apart i j t k k' (omega (arith, m, w.same_run i k)) (omega (arith, m', w.same_run j k'));
      }
    where
      known : (j : ℕ) → j < jobs R' → j < jobs R
      known j l = omega (arith, w.as_many_jobs)

  -- A schedule uses the devices in the same ticks,
  used_alike : (k : ℕ) (r : List Place) (t : ℕ) → Every (λ p. p.job < jobs R) r → used R k r t ≡ used R' k r t
  unfolding used
  used_alike k [] t h = refl
  used_alike k (p ∷ r) t h = cc (w.same_uses p.job k h.0, w.same_run p.job h.0, used_alike k r t h.1)

  uses_alike : (s : List ℕ) (k : ℕ) → uses_of R s k ≡ uses_of R' s k
  uses_alike s k =
      pattern_alike (used R k (places R s)) (used R' k (places R s)) 0 R.horizon
      (λ t l m. used_alike k (places R s) t (every_up_to (λ p. p.job < jobs R) (λ j. place j (start s j)) (jobs R) (λ j i. i)))
      ∙ ap (pattern (used R' k (places R s)) 0) w.same_horizon
      ∙ ap (λ (n : ℕ). pattern (used R' k (up_to (λ j. place j (start s j)) n)) 0 R'.horizon) w.as_many_jobs

  -- and so has the same rows at the same cost.
  same_rows : (s : List ℕ) (rows : ℕ → List Letter) → Rows R s rows → Rows R' s rows
  same_rows s rows h =
      record {
        least = λ k l. let i : k < R.devices.count = omega (arith, w.as_many_devices) in
            least_alike R.round R'.round (device R k) (device R' k) (uses_of R s k) (uses_of R' s k) (rows k)
            w.same_round (w.same_device k i) (uses_alike s k) (h.least k i);
      }

  pub same_costs : (s : List ℕ) (e : ℕ) → Costs R s e → Costs R' s e
  same_costs s e c =
      record {
        rows = c.rows;
        least = same_rows s c.rows c.least;
        sums = c.sums
            ∙ sum_same R.devices.count _ _ (λ k l. ap (λ (d : Device). energy d (c.rows k)) (w.same_device k l))
            ∙ ap (λ (n : ℕ). sum n (λ k. energy (device R' k) (c.rows k))) w.as_many_devices;
      }

  -- The least cost is no higher.
  pub no_dearer : {s s' : List ℕ} {e e' : ℕ} → FirstLeast R s e → FirstLeast R' s' e' → e' ≤ e
  no_dearer {s} {s'} {e} f f' = f'.least s e (still_feasible s f.feasible) (same_costs s e f.costs)
