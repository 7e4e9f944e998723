-- The one promise of `least_plan` implies the other: the visiting order has no more vertices than can be needed.
use mathlib.Core.Path.{◌≡◌, refl, sym, ap, subst}
use mathlib.Core.List.{List}
use Prim.Native.Nat.{ℕ, zero, suc, ◌-◌, ◌*◌, ◌≤◌, ◌<◌}
use native.Mathlib.Nat.{mul-le-mul, mul-le-mul_left}
use native.Mathlib.Omega.{arith}
use Rattle.schedule.specs.declared.Recorder.{Recorder}
use Rattle.schedule.specs.Quantities.{jobs, Valid}
use Rattle.schedule.specs.Visiting.{vertices}
use Rattle.planner.specs.declared.Answer.{Answer}
use Rattle.planner.specs.Promises.{stops, passes, refused, read}
use Rattle.request.proofs.Accepted.{accepted_valid}
use Rattle.least.specs.Effort.{most_of, most_vertices}
use Rattle.cheapest.specs.Promises.{OverOrLeast, LeastOf, LeastPlanned, CountedOrLeast, CountedLeastOf, CountedLeastPlanned}
use Rattle.cheapest.proofs.Covering.{most_below, vertices_most}

none_below : (h : ℕ) → most_below h 0 ≡ 1
unfolding most_below
none_below h = refl

more_below : (h m : ℕ) → most_below h (suc m) ≡ suc (suc m * (h * most_below h m))
unfolding most_below
more_below h m = refl

more_needed : (R : Recorder) (m : ℕ) → most_of R (suc m) 0 ≡ suc (R.horizon * suc (jobs R * most_of R m 0))
unfolding most_of
more_needed R m = let all : R.horizon - 0 ≡ R.horizon = omega arith in ap (λ (k : ℕ). suc (k * suc (jobs R * most_of R m 0))) all

-- Where some of the jobs are unplaced, no more can stand below a vertex than can be needed below it.
below_most : (R : Recorder) (m : ℕ) → suc m ≤ jobs R → most_below R.horizon (suc m) ≤ most_of R (suc m) 0
below_most R zero h =
    let one = ap (λ (k : ℕ). R.horizon * k) (none_below R.horizon) in
    omega (arith, more_below R.horizon 0, more_needed R 0, one)
below_most R (suc m) h =
    let fewer = mul-le-mul h (below_most R m (omega (arith, h))) in
    let times = mul-le-mul_left R.horizon fewer in
    omega (arith, times, more_below R.horizon (suc m), more_needed R (suc m))

module _ (R : Recorder) (valid : Valid R) where
  pub vertices_needed : 0 < jobs R → vertices R ≤ most_vertices R
  unfolding most_vertices
  vertices_needed some = go (jobs R) refl some
    where
      go : (n : ℕ) → jobs R ≡ n → 0 < n → vertices R ≤ suc (jobs R) * most_of R (jobs R) 0
      go zero e q = absurd (omega (arith, q))
      go (suc m) e q =
          let below = below_most R m (omega (arith, e)) in
          let all : most_below R.horizon (jobs R) ≤ most_of R (jobs R) 0 = subst (λ (n : ℕ). most_below R.horizon n ≤ most_of R n 0) (sym e) below in
          omega (arith, all, vertices_most R valid)

  pub weakened : {budget : ℕ} {lent : List ℕ} {a : Answer} {l : List ℕ} → CountedLeastOf budget lent R a l → LeastOf budget lent R a l
  weakened (stops h) = stops h
  weakened (passes h (stops f)) = passes h (stops f)
  weakened (passes h (passes f (CountedOrLeast.over j b))) = passes h (passes f (OverOrLeast.over (omega (arith, b, vertices_needed j))))
  weakened (passes h (passes f (CountedOrLeast.least g))) = passes h (passes f (OverOrLeast.least g))

-- And of a file.
pub planned_weakened : {file : List ℕ} {budget : ℕ} {lent : List ℕ} {a : Answer} {l : List ℕ} → CountedLeastPlanned file budget lent a l → LeastPlanned file budget lent a l
planned_weakened (refused r) = refused r
planned_weakened {file = file} (read {R = R} r t) = read r (weakened R (accepted_valid file R r) t)
