-- `any_plan` beside `search`, by their promises alone: both say yes or both say no; its count is never above the search's, and the same where there is no plan.
use mathlib.Core.Path.{◌≡◌, refl, sym, ◌∙◌}
use mathlib.Core.List.{List}
use Prim.Native.Nat.{ℕ, ◌≤◌}
use native.Mathlib.Omega.{arith}
use lib.ListN.{length}
use Rattle.schedule.specs.declared.Recorder.{Recorder}
use Rattle.schedule.specs.Quantities.{jobs, Valid}
use Rattle.planner.specs.declared.Answer.{Answer}
use Rattle.planner.specs.Promises.{stops, passes, gives_such, Reads, found, SearchOf, Searched}
use Rattle.planner.proofs.Larger.{Enough}
use Rattle.planner.proofs.Reading.{outcome_of, two_of_file}
use Rattle.possible.specs.Promises.{PossibleOf, Possible}
use Rattle.possible.proofs.Counts.{fewer_vertices, same_vertices}

-- ---- where neither budget is too small

abbrev Agree : Answer → Answer → Type 0
Agree a a' = Enough a → Enough a' → (a.number ≡ a'.number) × (a.count ≤ a'.count) × (a.number ≡ 19 → a.count ≡ a'.count)

agree : (b b' : ℕ) (lent : List ℕ) (R : Recorder) → Valid R → {a a' : Answer} {l l' : List ℕ} → PossibleOf b lent R a l → SearchOf b' lent R a' l' → Agree a a'
agree b b' lent R v (passes h (stops o)) s n n' = absurd (n refl)
agree b b' lent R v (stops h) (stops h') n n' = (refl, omega arith, λ e. refl)
agree b b' lent R v (stops h) (passes h' t') n n' = absurd (h' h)
agree b b' lent R v (passes h (passes c t)) (stops h') n n' = absurd (h h')
agree b b' lent R v (passes h (passes c t)) (passes h' (stops o')) n n' = absurd (n' refl)
agree b b' lent R v (passes h (passes c (stops f))) (passes h' (passes c' (stops f'))) n n' = (refl, fewer_vertices R, λ e. same_vertices R v f)
agree b b' lent R v (passes h (passes c (stops f))) (passes h' (passes c' (passes f' g'))) n n' = absurd (f' f)
agree b b' lent R v (passes h (passes c (passes f g))) (passes h' (passes c' (stops f'))) n n' = absurd (f f')
agree b b' lent R v (passes h (passes c (passes f (gives_such g)))) (passes h' (passes c' (passes f' (found g')))) n n' =
    (refl, fewer_vertices R, λ e. absurd (omega arith))

module _ (file : List ℕ) (b b' : ℕ) (lent : List ℕ) {a a' : Answer} {l l' : List ℕ} (p : Possible file b lent a l) (s : Searched file b' lent a' l') where
  agrees : Agree a a'
  agrees =
      two_of_file file lent lent (PossibleOf b lent) (SearchOf b' lent) (λ x m x' m'. Agree x x') (λ k n n'. (refl, omega arith, λ e. refl))
      (λ R v x x' m m'. agree b b' lent R v) p s

  -- They have the same number,
  pub same_number : Enough a → Enough a' → a.number ≡ a'.number
  same_number n n' = (agrees n n').0

  -- and its count is no larger.
  pub fewer_counted : Enough a → Enough a' → a.count ≤ a'.count
  fewer_counted n n' = (agrees n n').1

  -- Where both say that there is no plan, their counts are equal.
  pub none_counted : a.number ≡ 19 → a'.number ≡ 19 → a.count ≡ a'.count
  none_counted e e' = (agrees (λ q. omega arith) (λ q. omega arith)).2 e

-- ---- yes or no

yes_or_no : (b : ℕ) (lent : List ℕ) (R : Recorder) → jobs R ≤ length lent → {a : Answer} {l : List ℕ} → PossibleOf b lent R a l → Enough a → (a.number ≡ 19 → ⊥) → a.number ≡ 0
yes_or_no b lent R h (stops k) n q = absurd (omega arith)
yes_or_no b lent R h (passes k (stops o)) n q = absurd (n refl)
yes_or_no b lent R h (passes k (passes c (stops f))) n q = absurd (q refl)
yes_or_no b lent R h (passes k (passes c (passes f (gives_such g)))) n q = refl

-- For a file that is accepted, with room for its starts and budgets that are large enough, `any_plan` says yes exactly when `search` does not say 19.
module _
    (file : List ℕ)
    (b b' : ℕ)
    (lent : List ℕ)
    {a a' : Answer}
    {l l' : List ℕ}
    (p : Possible file b lent a l)
    (s : Searched file b' lent a' l')
    (enough : Enough a)
    (enough' : Enough a')
  where
    pub yes_not_none : a.number ≡ 0 → a'.number ≡ 19 → ⊥
    yes_not_none e e' = omega (arith, same_number file b b' lent p s enough enough')

    pub not_none_yes : {R : Recorder} → Reads file R → jobs R ≤ length lent → (a'.number ≡ 19 → ⊥) → a.number ≡ 0
    not_none_yes {R} r h q =
        yes_or_no b lent R h (outcome_of file lent (PossibleOf b lent) r p) enough (λ e. q (sym (same_number file b b' lent p s enough enough') ∙ e))

-- ---- large enough or not, where the search's budget is no smaller

abbrev Fewer : Answer → Answer → Type 0
Fewer a a' = a.count ≤ a'.count

fewer : (b b' : ℕ) → b ≤ b' → (lent : List ℕ) (R : Recorder) {a a' : Answer} {l l' : List ℕ} → PossibleOf b lent R a l → SearchOf b' lent R a' l' → Fewer a a'
fewer b b' i lent R (stops h) s = omega arith
fewer b b' i lent R (passes h t) (stops h') = absurd (h h')
fewer b b' i lent R (passes h (stops o)) (passes h' (stops o')) = i
fewer b b' i lent R (passes h (stops o)) (passes h' (passes c' (stops f'))) = omega (arith, fewer_vertices R)
fewer b b' i lent R (passes h (stops o)) (passes h' (passes c' (passes f' (found g')))) = omega (arith, fewer_vertices R)
fewer b b' i lent R (passes h (passes c (stops f))) (passes h' (stops o')) = omega arith
fewer b b' i lent R (passes h (passes c (stops f))) (passes h' (passes c' (stops f'))) = fewer_vertices R
fewer b b' i lent R (passes h (passes c (stops f))) (passes h' (passes c' (passes f' g'))) = absurd (f' f)
fewer b b' i lent R (passes h (passes c (passes f (gives_such g)))) (passes h' (stops o')) = omega arith
fewer b b' i lent R (passes h (passes c (passes f g))) (passes h' (passes c' (stops f'))) = absurd (f f')
fewer b b' i lent R (passes h (passes c (passes f (gives_such g)))) (passes h' (passes c' (passes f' (found g')))) = fewer_vertices R

pub fewer_always : (file : List ℕ) (b b' : ℕ) → b ≤ b' → (lent : List ℕ) {a a' : Answer} {l l' : List ℕ}
    → Possible file b lent a l → Searched file b' lent a' l' → a.count ≤ a'.count
fewer_always file b b' i lent =
    two_of_file file lent lent (PossibleOf b lent) (SearchOf b' lent) (λ x m x' m'. Fewer x x') (λ n. omega arith)
    (λ R v x x' m m'. fewer b b' i lent R)
