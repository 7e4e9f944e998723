-- What each operation answers, worked out from the definitions; and that what is worked out is what it promises, one law for each. So a figure is proved by
-- computing it. Of the verdict and the rows, start times that are not feasible are left out: no figure of theirs has any.
use mathlib.Core.Path.{◌≡◌, refl, ap, subst, ◌∙◌}
use mathlib.Core.Bool.{Bool, true, cond, not, ◌&&◌, and-eq-true_iff}
use mathlib.Core.List.{List, ◌++◌}
use mathlib.Core.Logic.{by_cases}
use mathlib.Core.Option.{Option, none, some}
use Prim.Native.Nat.{ℕ, zero, suc, ◌*◌, ◌≤◌, ◌<◌}
use native.Mathlib.Decide.{ℕ_discrete}
use native.Mathlib.Omega.{arith}
use lib.Dec.{ltb, eqb}
use lib.IntN.{ℤ}
use lib.ListN.{length, drop}
use borrow.Author.Tests.{ltb-true, ltb-false, eqb-true, eqb-false, not-true}
use Rattle.base.specs.Lists.{up_to}
use Rattle.base.proofs.Cases.{cond_cases}
use Rattle.schedule.specs.declared.Recorder.{Recorder}
use Rattle.schedule.specs.Quantities.{jobs, release, deadline, run, Valid}
use Rattle.schedule.specs.Listing.{start, Feasible, margin, laid}
use Rattle.schedule.specs.Visiting.{Visited, plan_row, plan_energy, visited, vertices}
use Rattle.schedule.specs.inside.Judging.{window_fault, clashes}
use Rattle.schedule.proofs.Judgements.{window_met, clash_apart, apart_none, none_feasible}
use Rattle.schedule.proofs.Outcome.{plan_rows, plan_costs, visited_first, visited_none}
use Rattle.request.specs.Format.{Reading, read_of}
use Rattle.request.specs.Format as Format
use Rattle.request.proofs.Accepted.{accepted_valid}
use Rattle.planner.specs.declared.Answer.{Answer}
use Rattle.planner.specs.Promises.{success, refusal, refusal_after, OfFile, Checked, Margined, Judged, Rowed, Searched}
use Rattle.planner.specs.Promises.{stops, gives, gives_such, CheckOf, MarginsOf, VerdictOf, RowsOf, SearchOf}
use Rattle.planner.specs.Promises as P
use Rattle.planner.proofs.Refusing.{unless_equal, unless_enough, unless_some}

-- ---- the file

-- An outcome, if one is worked out; and that it is one of those that a promise allows.
abbrev Outcome : Type 0 → Type 0
Outcome L = Option (Answer × L)

abbrev Among : {L : Type 0} → (Answer → L → Type 0) → Outcome L → Type 0
Among P none = Unit {0}
Among P (some o) = P o.0 o.1

-- The outcome on a file, where `on` works out that on a recorder.
unfoldable pub outcome : {L : Type 0} → L → (Recorder → Outcome L) → Reading → Outcome L
outcome lent on (Format.refused n) = some (refusal n, lent)
outcome lent on (Format.accepted R) = on R

module _ {L : Type 0} (f : List ℕ) (lent : L) (Then : Recorder → Answer → L → Type 0) (on : Recorder → Outcome L) (right : (R : Recorder) → Valid R → Among (Then R) (on R)) where
  of_reading : (w : Reading) → read_of f ≡ w → Among (OfFile f lent Then) (outcome lent on w)
  unfolding outcome
  of_reading (Format.refused n) r = P.OfFile.refused r
  of_reading (Format.accepted R) r = then_read (on R) (right R (accepted_valid f R r))
    where
      then_read : (o : Outcome L) → Among (Then R) o → Among (OfFile f lent Then) o
      then_read none t = tt
      then_read (some o) t = P.OfFile.read r t

  of_file : {a : Answer} {after : L} → outcome lent on (read_of f) ≡ some (a, after) → OfFile f lent Then a after
  of_file e = subst (Among (OfFile f lent Then)) e (of_reading (read_of f) refl)

-- ---- `check`

unfoldable pub checked : Recorder → Outcome (Unit {0})
checked R = some (success R.horizon 0 0, tt)

pub checked_by : (f : List ℕ) {a : Answer} → outcome tt checked (read_of f) ≡ some (a, tt) → Checked f a
unfolding checked
checked_by f e = of_file f tt (λ R a u. CheckOf R a) checked (λ R v. P.CheckOf.accepted) e

-- ---- `margins`

module _ (starts : List ℕ) (lent : List ℤ) where
  unfoldable pub margined : Recorder → Outcome (List ℤ)
  margined R =
      cond (eqb (length starts) (jobs R))
      (cond (ltb (length lent) (jobs R)) (some (refusal 15, lent))
      (some (success R.horizon 0 0, up_to (margin R starts) (jobs R) ++ drop (jobs R) lent)))
      (some (refusal 14, lent))

  margined_among : (R : Recorder) → Among (MarginsOf starts lent R) (margined R)
  unfolding margined
  margined_among R =
      cond_cases (Among (MarginsOf starts lent R)) (eqb (length starts) (jobs R))
      (λ q. let one = eqb-true (length starts) (jobs R) q in
      cond_cases (Among (MarginsOf starts lent R)) (ltb (length lent) (jobs R))
      (λ p. unless_equal one (stops (ltb-true (length lent) (jobs R) p)))
      (λ p. unless_equal one (unless_enough (ltb-false (length lent) (jobs R) p) gives)))
      (λ q. stops (eqb-false (length starts) (jobs R) q))

  pub margined_by : (f : List ℕ) {a : Answer} {after : List ℤ} → outcome lent margined (read_of f) ≡ some (a, after) → Margined f starts lent a after
  margined_by f e = of_file f lent (MarginsOf starts lent) margined (λ R v. margined_among R) e

-- ---- feasible start times

-- Each number below n passes a test.
unfoldable pub all : (ℕ → Bool) → ℕ → Bool
all t zero = true
all t (suc n) = t n && all t n

all_at : (t : ℕ → Bool) (n : ℕ) → all t n ≡ true → (j : ℕ) → j < n → t j ≡ true
unfolding all
all_at t zero e j l = absurd (omega arith)
all_at t (suc n) e j l =
    let both = (and-eq-true_iff (t n) (all t n)).0 e in
    by_cases (ℕ_discrete j n) (λ same. ap t same ∙ both.0) (λ other. all_at t n both.1 j (omega arith))

module _ (R : Recorder) (s : List ℕ) where
  abbrev meets : ℕ → Bool
  meets j = eqb 0 (window_fault (release R j) (deadline R j) (run R j) (start s j))

  abbrev parts : ℕ → ℕ → Bool
  parts j i = not (clashes i (start s i) (run R i) j (start s j) (run R j))

  unfoldable pub feasible : Bool
  feasible = eqb (length s) (jobs R) && (all meets (jobs R) && all (λ j. all (parts j) (jobs R)) (jobs R))

  feasible_is : feasible ≡ true → Feasible R s
  unfolding feasible
  feasible_is e =
      let n = jobs R in
      let one = (and-eq-true_iff (eqb (length s) n) (all meets n && all (λ j. all (parts j) n) n)).0 e in
      let two = (and-eq-true_iff (all meets n) (all (λ j. all (parts j) n) n)).0 one.1 in
      none_feasible R s (eqb-true (length s) n one.0)
      (λ j l. window_met R s j (eqb-true 0 (window_fault (release R j) (deadline R j) (run R j) (start s j)) (all_at meets n two.0 j l)))
      (λ j l. apart_none R s j (λ i k. clash_apart R s i j (not-true _ (all_at (parts j) n (all_at (λ j. all (parts j) n) n two.1 j l) i k))))

-- ---- `verdict`

module _ (starts : List ℕ) where
  unfoldable pub judged : Recorder → Outcome (Unit {0})
  judged R = cond (feasible R starts) (some (success R.horizon (plan_energy R starts) 0, tt)) none

  judged_among : (R : Recorder) → Valid R → Among (λ a (u : Unit {0}). VerdictOf starts R a) (judged R)
  unfolding judged
  judged_among R v =
      cond_cases (Among (λ a (u : Unit {0}). VerdictOf starts R a)) (feasible R starts)
      (λ q. let g = feasible_is R starts q in unless_equal g.one_each (P.feasible g (gives_such (plan_costs R v starts)))) (λ q. tt)

  pub judged_by : (f : List ℕ) {a : Answer} → outcome tt judged (read_of f) ≡ some (a, tt) → Judged f starts a
  judged_by f e = of_file f tt (λ R a u. VerdictOf starts R a) judged judged_among e

-- ---- `rows`

module _ (starts lent : List ℕ) where
  unfoldable pub rowed : Recorder → Outcome (List ℕ)
  rowed R =
      let room = R.devices.count * R.horizon in
      cond (feasible R starts)
      (cond (ltb (length lent) room) (some (refusal 15, lent))
      (some (success R.horizon (plan_energy R starts) 0, laid R.sleeps (plan_row R starts) R.devices.count ++ drop room lent)))
      none

  rowed_among : (R : Recorder) → Valid R → Among (RowsOf starts lent R) (rowed R)
  unfolding rowed plan_energy
  rowed_among R v =
      let room = R.devices.count * R.horizon in
      cond_cases (Among (RowsOf starts lent R)) (feasible R starts)
      (λ q. let g = feasible_is R starts q in
      cond_cases (Among (RowsOf starts lent R)) (ltb (length lent) room)
      (λ p. unless_equal g.one_each (stops (ltb-true (length lent) room p)))
      (λ p. unless_equal g.one_each (unless_enough (ltb-false (length lent) room p) (P.feasible g (gives_such (plan_rows R v starts))))))
      (λ q. tt)

  pub rowed_by : (f : List ℕ) {a : Answer} {after : List ℕ} → outcome lent rowed (read_of f) ≡ some (a, after) → Rowed f starts lent a after
  rowed_by f e = of_file f lent (RowsOf starts lent) rowed rowed_among e

-- ---- `search`

module _ (budget : ℕ) (lent : List ℕ) where
  -- Of what the visit has come to, so that it is worked out once.
  unfoldable pub found : Recorder → ℕ → Option (List ℕ) → Answer × List ℕ
  found R n none = (refusal_after 19 n, lent)
  found R n (some s) = (success R.horizon (plan_energy R s) n, s ++ drop (jobs R) lent)

  unfoldable pub ended : Recorder → Visited → Outcome (List ℕ)
  ended R st =
      cond (ltb (length lent) (jobs R)) (some (refusal 15, lent))
      (cond (ltb budget st.count) (some (refusal_after 20 budget, lent))
      (some (found R st.count st.best)))

  unfoldable pub searched : Recorder → Outcome (List ℕ)
  searched R = ended R (visited R)

  module _ (R : Recorder) (v : Valid R) where
    found_among : jobs R ≤ length lent → vertices R ≤ budget → (b : Option (List ℕ)) → (visited R).best ≡ b → Among (SearchOf budget lent R) (some (found R (vertices R) b))
    unfolding found
    found_among roomy covered none e = unless_enough roomy (unless_enough covered (stops (visited_none R v e)))
    found_among roomy covered (some s) e =
        let f = visited_first R v s e in
        unless_enough roomy (unless_enough covered (unless_some f.feasible (P.found f)))

    searched_among : Among (SearchOf budget lent R) (searched R)
    unfolding searched ended
    searched_among =
        cond_cases (Among (SearchOf budget lent R)) (ltb (length lent) (jobs R)) (λ q. stops (ltb-true (length lent) (jobs R) q))
        (λ q. let roomy = ltb-false (length lent) (jobs R) q in
        cond_cases (Among (SearchOf budget lent R)) (ltb budget (vertices R)) (λ p. unless_enough roomy (stops (ltb-true budget (vertices R) p)))
        (λ p. found_among roomy (ltb-false budget (vertices R) p) (visited R).best refl))

  pub searched_by : (f : List ℕ) {a : Answer} {after : List ℕ} → outcome lent searched (read_of f) ≡ some (a, after) → Searched f budget lent a after
  searched_by f e = of_file f lent (SearchOf budget lent) searched searched_among e
