-- Laws of judging: what a job's own test and the tests of two jobs say.
use mathlib.Core.Path.{◌≡◌, refl, sym, ap, subst}
use mathlib.Core.Bool.{Bool, true, false, true≢false}
use mathlib.Core.List.{List, []}
use mathlib.Core.Logic.{by_cases}
use Prim.Native.Nat.{ℕ, ◌+◌, ◌≤◌, ◌<◌, max}
use native.Mathlib.Decide.{ℕ_discrete, dec_le}
use native.Mathlib.Omega.{arith}
use lib.Dec.{ltb, eqb}
use lib.ListN.{length}
use borrow.Author.Tests.{ltb-true, ltb-false, eqb-true, eqb-false}
use Rattle.base.specs.declared.reasons.Reason.{Reason}
use Rattle.base.specs.Reasons.{number_of}
use Rattle.base.proofs.Cases.{cond_cases}
use Rattle.base.proofs.Numbered.{some_number}
use Rattle.device.specs.declared.Sleeps.TheVariants.{Plain}
use Rattle.schedule.specs.declared.Jobs.{Jobs}
use Rattle.schedule.specs.declared.Recorder.{Recorder}
use Rattle.schedule.specs.Quantities.{jobs, release, deadline, run}
use Rattle.schedule.specs.Listing.{start, Released, InTime, Runs, Feasible, Overlaps, Met, Fault, early, late, overlap}
use Rattle.schedule.specs.inside.Judging.{window_fault, clashes, Decides, holds, fails}

-- A recorder of these jobs: what a loop over them says of it, it says of every recorder that holds them.
abbrev pub holding : Jobs → Recorder
holding J = record { horizon = 0; round = false; sleeps = Plain; devices = record { count = 0; list = [] }; jobs = J }

-- What a deciding test says.
pub decided : {P : Type 0} {b : Bool} → Decides P b → b ≡ true → P
decided (holds p) e = p
decided (fails n) e = absurd (true≢false (sym e))

pub denied : {P : Type 0} {b : Bool} → Decides P b → b ≡ false → P → ⊥
denied (holds p) e = absurd (true≢false e)
denied (fails n) e = n

module _ (R : Recorder) (s : List ℕ) where
  -- One job's own fault, and none.
  pub window_missed : (j : ℕ) (e : Reason) → j < jobs R → Met R s j → number_of e ≡ window_fault (release R j) (deadline R j) (run R j) (start s j) → Fault R s (number_of e) j
  unfolding window_fault
  window_missed j e l m =
      cond_cases (λ (w : ℕ). number_of e ≡ w → Fault R s (number_of e) j) (ltb (start s j) (release R j))
      (λ q i. subst (λ (w : ℕ). Fault R s w j) (sym i) (early l m (ltb-true (start s j) (release R j) q)))
      (λ q. cond_cases (λ (w : ℕ). number_of e ≡ w → Fault R s (number_of e) j) (ltb (deadline R j) (start s j + run R j))
      (λ p i. subst (λ (w : ℕ). Fault R s w j) (sym i) (late l m (ltb-false (start s j) (release R j) q) (ltb-true (deadline R j) (start s j + run R j) p)))
      (λ p i. absurd (omega (arith, some_number e, i))))

  pub window_met : (j : ℕ) → 0 ≡ window_fault (release R j) (deadline R j) (run R j) (start s j) → Released R s j × InTime R s j
  unfolding window_fault
  window_met j =
      cond_cases (λ (w : ℕ). 0 ≡ w → Released R s j × InTime R s j) (ltb (start s j) (release R j))
      (λ q e. absurd (omega arith))
      (λ q. cond_cases (λ (w : ℕ). 0 ≡ w → Released R s j × InTime R s j) (ltb (deadline R j) (start s j + run R j))
      (λ p e. absurd (omega arith))
      (λ p e. (ltb-false (start s j) (release R j) q, ltb-false (deadline R j) (start s j + run R j) p)))

  -- No fault has the number 0.
  pub fault_some : {n j : ℕ} → Fault R s n j → n ≡ 0 → ⊥
  fault_some (early l m h) e = omega arith
  fault_some (late l m h k) e = omega arith
  fault_some (overlap l m o f) e = omega arith

  -- Job i clashes with job j exactly where it is another and each starts before the other ends.
  abbrev clash : ℕ → ℕ → Bool
  clash i j = clashes i (start s i) (run R i) j (start s j) (run R j)

  pub clash_overlaps : (i j : ℕ) → i < jobs R → 1 ≤ run R i → 1 ≤ run R j → clash i j ≡ true → Overlaps R s j
  unfolding clashes
  clash_overlaps i j l ri rj =
      cond_cases (λ (w : Bool). w ≡ true → Overlaps R s j) (eqb i j) (λ q p. absurd (true≢false (sym p)))
      (λ ne. cond_cases (λ (w : Bool). w ≡ true → Overlaps R s j) (ltb (start s i) (start s j + run R j))
      (λ q p. let a = ltb-true (start s i) (start s j + run R j) q in let b = ltb-true (start s j) (start s i + run R i) p in
      record { other = i; known = l; another = eqb-false i j ne; tick = max (start s j) (start s i); here = omega arith; there = omega arith })
      (λ q p. absurd (true≢false (sym p))))

  pub clash_apart : (i j : ℕ) → clash i j ≡ false → (i ≡ j → ⊥) → (t : ℕ) → Runs R s j t → Runs R s i t → ⊥
  unfolding clashes
  clash_apart i j =
      cond_cases (λ (w : Bool). w ≡ false → (i ≡ j → ⊥) → (t : ℕ) → Runs R s j t → Runs R s i t → ⊥) (eqb i j) (λ q p ne. absurd (ne (eqb-true i j q)))
      (λ e. cond_cases (λ (w : Bool). w ≡ false → (i ≡ j → ⊥) → (t : ℕ) → Runs R s j t → Runs R s i t → ⊥) (ltb (start s i) (start s j + run R j))
      (λ q p ne t a b. omega (arith, ltb-false (start s j) (start s i + run R i) p))
      (λ q p ne t a b. omega (arith, ltb-false (start s i) (start s j + run R j) q)))

  -- Job j keeps apart from each job before k; and where it does from all, it overlaps none.
  abbrev pub Apart : ℕ → ℕ → Type 0
  Apart j k = (i : ℕ) → i < k → (i ≡ j → ⊥) → (t : ℕ) → Runs R s j t → Runs R s i t → ⊥

  pub apart_none : (j : ℕ) → Apart j (jobs R) → Overlaps R s j → ⊥
  apart_none j h o = h o.other o.known o.another o.tick o.here o.there

  pub none_feasible : length s ≡ jobs R → Met R s (jobs R) → ((j : ℕ) → j < jobs R → Overlaps R s j → ⊥) → Feasible R s
  none_feasible one m none =
      record {
        one_each = one;
        released = λ j l. (m j l).0;
        in_time = λ j l. (m j l).1;
        apart = λ i j t hi hj a b. by_cases (ℕ_discrete i j) (λ e. e)
            (λ ne. absurd (none i hi (record { other = j; known = hj; another = λ e. ne (sym e); tick = t; here = a; there = b })));
      }

  -- No schedule has two faults, and none that is feasible has one. A job that misses its own window:
  abbrev Misses : ℕ → Type 0
  Misses j = Released R s j → InTime R s j → ⊥

  unreleased : (j : ℕ) → start s j < release R j → Misses j
  unreleased j h r t = omega arith

  untimely : (j : ℕ) → deadline R j < start s j + run R j → Misses j
  untimely j h r t = omega arith

  not_met : (i j : ℕ) → Met R s j → Misses i → j ≤ i
  not_met i j m bad = by_cases (dec_le j i) (λ h. h) (λ h. absurd (bad (m i (omega arith)).0 (m i (omega arith)).1))

  same_job : (i j : ℕ) → Met R s i → Misses i → Met R s j → Misses j → i ≡ j
  same_job i j m bad m' bad' = omega (arith, not_met i j m' bad, not_met j i m bad')

  not_less : (i k : ℕ) → (i < k → ⊥) → k ≤ i
  not_less i k h = by_cases (dec_le k i) (λ l. l) (λ l. absurd (h (omega arith)))

  pub fault_one : {n j n' j' : ℕ} → Fault R s n j → Fault R s n' j' → (n ≡ n') × (j ≡ j')
  fault_one (early {j = i} l m h) (early {j = j} l' m' h') = (refl, same_job i j m (unreleased i h) m' (unreleased j h'))
  fault_one (early {j = i} l m h) (late {j = j} l' m' r' h') =
      let e = same_job i j m (unreleased i h) m' (untimely j h') in absurd (omega (arith, ap (start s) e, ap (release R) e))
  fault_one (early {j = i} l m h) (overlap l' m' o' f') = absurd (omega (arith, not_met i (jobs R) m' (unreleased i h)))
  fault_one (late {j = i} l m r h) (early {j = j} l' m' h') =
      let e = same_job i j m (untimely i h) m' (unreleased j h') in absurd (omega (arith, ap (start s) e, ap (release R) e))
  fault_one (late {j = i} l m r h) (late {j = j} l' m' r' h') = (refl, same_job i j m (untimely i h) m' (untimely j h'))
  fault_one (late {j = i} l m r h) (overlap l' m' o' f') = absurd (omega (arith, not_met i (jobs R) m' (untimely i h)))
  fault_one (overlap l m o f) (early {j = j} l' m' h') = absurd (omega (arith, not_met j (jobs R) m (unreleased j h')))
  fault_one (overlap l m o f) (late {j = j} l' m' r' h') = absurd (omega (arith, not_met j (jobs R) m (untimely j h')))
  fault_one (overlap {j = i} l m o f) (overlap {j = j} l' m' o' f') = (refl, omega (arith, not_less i j (λ h. f' i h o), not_less j i (λ h. f j h o')))

  pub fault_infeasible : {n j : ℕ} → Fault R s n j → Feasible R s → ⊥
  fault_infeasible (early {j = j} l m h) g = unreleased j h (g.released j l) (g.in_time j l)
  fault_infeasible (late {j = j} l m r h) g = untimely j h (g.released j l) (g.in_time j l)
  fault_infeasible (overlap {j = j} l m o f) g = o.another (g.apart o.other j o.tick o.known l o.there o.here)
