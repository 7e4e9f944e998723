-- What the search answers, by what its visit came to. The recorder R is read through its flat form F, which is R.
use mathlib.Core.Path.{◌≡◌, sym, ap, ◌∙◌, subst}
use mathlib.Core.Bool.{Bool, true, false, true≢false}
use mathlib.Core.List.{List, ◌++◌}
use Prim.Native.Nat.{ℕ, ◌≤◌, ◌<◌, min}
use native.Mathlib.Omega.{arith}
use lib.ListN.{get_or, length, drop}
use Rattle.std.specs.Prelude.{Result, Ok, Err, is_ok}
use Rattle.base.specs.declared.reasons.Reason.TheVariants.{NoSchedule, Budget}
use Rattle.base.specs.Lists.{up_to}
use Rattle.schedule.specs.declared.Recorder.{Recorder}
use Rattle.schedule.specs.Quantities.{Valid, jobs}
use Rattle.schedule.specs.Visiting.{Visited, plan_energy, visited}
use Rattle.extras.specs.inside.Tabled.{Tabled, cap_at}
use Rattle.stored.specs.inside.Cleared.{no_key}
use Rattle.recall.specs.inside.Counts.{Counts}
use Rattle.recall.proofs.Kept.{right_clear}
use Rattle.recall.proofs.Recalling.{counts_none}
use Rattle.visit.specs.inside.Lent.{count_at, energy_at, best_at, Lends, KeptWithin, Holds, Ran, whole, spent, refusal, success, Finds, beyond, nowhere, found}
use Rattle.visit.specs.declared.tally.Tally.{Tally}
use Rattle.visit.specs.declared.stages.Spent.{Spent}
use Rattle.visit.specs.declared.Found.{Found}
use Rattle.visit.specs.declared.Unfound.{Unfound}
use Rattle.visit.specs.inside.Stops.{visited_by}
use Rattle.visit.proofs.Stopping.{visited_whole}
use Rattle.visit.proofs.Rooted.{Holding, best_none, best_held, starts_are, starts_fit}

-- ---- what the stages come to

-- A memory of zeros is right: no entry counts.
pub lends_clear : (R : Recorder) (ex memory : List ℕ) → Tabled R ex → ((i : ℕ) → get_or memory i 0 ≡ 0) → Lends R ex memory
lends_clear R ex memory tabled clear =
    record { tabled = tabled; right = right_clear (Counts R (cap_at ex)) memory (counts_none R tabled.valid (cap_at ex) no_key) clear }

module _ (R : Recorder) (stop : Bool) (l : Tally) where
  -- The budget by another name.
  pub ran_as : (budget budget' : ℕ) → budget ≡ budget' → (r : Result (Unit {0}) Spent) → Ran R stop budget l r → Ran R stop budget' l r
  ran_as budget budget' e r h = subst (λ (n : ℕ). Ran R stop n l r) e h

  -- A larger budget changes nothing where the smaller one suffices.
  pub ran_larger : (few budget : ℕ) → few ≤ budget → (r : Result (Unit {0}) Spent) → Ran R stop few l r → is_ok r ≡ true → Ran R stop budget l r
  ran_larger few budget less (Ok u) (whole h) e = whole (record { count = h.count; best = h.best; within = omega (arith, h.within, less) })
  ran_larger few budget less (Err x) (spent q) e = absurd (true≢false (sym e))

  -- The lent memory is kept, but where a few vertices do not suffice and the budget has more.

  pub kept_beyond : (few budget : ℕ) → few ≡ 256 → 256 < budget → (r : Result (Unit {0}) Spent) → Ran R stop few l r → is_ok r ≡ false → (memory after : List ℕ)
      → KeptWithin (min budget (visited_by R stop).count) memory after
  kept_beyond few budget e more (Ok u) (whole h) q memory after k = absurd (true≢false q)
  kept_beyond few budget e more (Err x) (spent s) q memory after k = absurd (k (omega (arith, s, e, more)))

-- By the count that is told: the budget where it is used up, else that of the visit.
module _ (R : Recorder) (stop : Bool) (budget : ℕ) (memory after : List ℕ) (k : KeptWithin (min budget (visited_by R stop).count) memory after) where
  pub kept_over : KeptWithin budget memory after
  kept_over few = k (λ m. few (omega (arith, m)))

  pub kept_counted : (l : Tally) (r : Result (Unit {0}) Spent) → Ran R stop budget l r → is_ok r ≡ true → KeptWithin l.count memory after
  kept_counted l (Ok u) (whole h) e few = k (λ m. few (omega (arith, m, h.count)))
  kept_counted l (Err x) (spent q) e few = absurd (true≢false (sym e))

-- ---- the answer

module _ (R : Recorder) (stop : Bool) (budget : ℕ) (l : Tally) (h : Holds R budget l (visited_by R stop)) where
  pub finds_fit : Valid R → (energy_at l ≡ 4294967295 → ⊥) → (j : ℕ) → j < jobs R → best_at l j < 65536
  finds_fit valid ne = starts_fit R budget l (visited_by R stop) h (best_held R budget l (visited_by R stop) h ne) valid

  module _ (lent : List ℕ) (room : jobs R ≤ length lent) where
    pub finds_none : energy_at l ≡ 4294967295 → Finds R (visited_by R stop) budget lent (refusal NoSchedule (count_at l)) lent
    finds_none z = rw h.count (nowhere room h.within (best_none R budget l (visited_by R stop) h z))

    pub finds_found :
        (energy_at l ≡ 4294967295 → ⊥) → (after : List ℕ) → after ≡ up_to (best_at l) (jobs R) ++ drop (jobs R) lent
        → Finds R (visited_by R stop) budget lent (success (energy_at l) (count_at l)) after
    finds_found ne after a =
        go (energy_at l) (count_at l) after k.energy h.count (a ∙ ap (λ (s : List ℕ). s ++ drop (jobs R) lent) (starts_are R budget l (visited_by R stop) h k))
      where
        k : Holding R budget l (visited_by R stop) h
        k = best_held R budget l (visited_by R stop) h ne

        go : (e c : ℕ) (after : List ℕ) → e ≡ plan_energy R k.starts → c ≡ (visited_by R stop).count → after ≡ k.starts ++ drop (jobs R) lent
            → Finds R (visited_by R stop) budget lent (success e c) after
        go e c after p q r = rw (p, q, r) (found room h.within k.best)

module _ (R : Recorder) (stop : Bool) (budget : ℕ) (F : Recorder) (e : F ≡ R) where
  pub ran_holds : (l : Tally) (r : Result (Unit {0}) Spent) → Ran F stop budget l r → is_ok r ≡ true → Holds R budget l (visited_by R stop)
  ran_holds l (Ok u) (whole h) q = subst (λ (x : Recorder). Holds x budget l (visited_by x stop)) e h
  ran_holds l (Err x) (spent s) q = absurd (true≢false (sym q))

  pub finds_over :
      (l : Tally) (r : Result (Unit {0}) Spent) → Ran F stop budget l r → is_ok r ≡ false → (lent : List ℕ) → jobs R ≤ length lent
      → Finds R (visited_by R stop) budget lent (refusal Budget budget) lent
  finds_over l (Ok u) (whole h) q lent room = absurd (true≢false q)
  finds_over l (Err x) (spent h) q lent room = beyond room (subst (λ (x : Recorder). budget < (visited_by x stop).count) e h)

-- Where the visit does not stop, it is the search's own.
pub finds_whole : (R : Recorder) (budget : ℕ) (lent : List ℕ) (f : Result Found Unfound) (l : List ℕ) → Finds R (visited_by R false) budget lent f l → Finds R (visited R) budget lent f l
finds_whole R budget lent f l h = subst (λ (st : Visited). Finds R st budget lent f l) (visited_whole R) h
