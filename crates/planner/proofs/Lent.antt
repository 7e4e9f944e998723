-- When the memory that `search_in` is lent is not used: with every refusal but 19 and 20, and with a budget of a few vertices whatever the answer.
use mathlib.Core.Path.{◌≡◌, refl}
use mathlib.Core.List.{List}
use Prim.Native.Nat.{ℕ, ◌≤◌}
use native.Mathlib.Omega.{arith}
use Rattle.schedule.specs.declared.Recorder.{Recorder}
use Rattle.planner.specs.declared.Answer.{Answer}
use Rattle.planner.specs.Promises as P
use Rattle.planner.specs.Promises.{stops, passes, SearchOf, Searched, SearchedIn}
use Rattle.planner.proofs.Only.{only_searched}

-- No more vertices are counted than the budget has.
count_within : (budget : ℕ) (lent : List ℕ) (R : Recorder) {a : Answer} {l : List ℕ} → SearchOf budget lent R a l → a.count ≤ budget
count_within budget lent R (stops h) = omega arith
count_within budget lent R (passes h (stops o)) = omega arith
count_within budget lent R (passes h (passes o (stops n))) = omega arith
count_within budget lent R (passes h (passes o (passes n (P.GivesLeast.found f)))) = omega arith

-- None are told with a refusal but 19 and 20.
pub none_told : (budget : ℕ) (lent : List ℕ) (R : Recorder) {a : Answer} {l : List ℕ} → SearchOf budget lent R a l
    → (a.number ≡ 0 → ⊥) → (a.number ≡ 19 → ⊥) → (a.number ≡ 20 → ⊥) → a.count ≡ 0
none_told budget lent R (stops h) z n o = refl
none_told budget lent R (passes h (stops b)) z n o = absurd (o refl)
none_told budget lent R (passes h (passes b (stops f))) z n o = absurd (n refl)
none_told budget lent R (passes h (passes b (passes f (P.GivesLeast.found g)))) z n o = absurd (z refl)

module _ (file : List ℕ) (budget : ℕ) (memory lent : List ℕ) where
  file_within : {a : Answer} {l : List ℕ} → Searched file budget lent a l → a.count ≤ budget
  file_within (P.OfFile.refused r) = omega arith
  file_within (P.OfFile.read {R = R} r t) = count_within budget lent R t

  pub few_kept : {a : Answer} {m l : List ℕ} → budget ≤ 256 → SearchedIn file budget memory lent a m l → m ≡ memory
  few_kept h p = p.1 (λ more. omega (arith, more, file_within p.0))

  file_none : {a : Answer} {l : List ℕ} → Searched file budget lent a l → (a.number ≡ 0 → ⊥) → (a.number ≡ 19 → ⊥) → (a.number ≡ 20 → ⊥) → a.count ≡ 0
  file_none (P.OfFile.refused r) z n o = refl
  file_none (P.OfFile.read {R = R} r t) z n o = none_told budget lent R t z n o

  pub refusals_keep : {a : Answer} {m l : List ℕ} → SearchedIn file budget memory lent a m l
      → (a.number ≡ 0 → ⊥) → (a.number ≡ 19 → ⊥) → (a.number ≡ 20 → ⊥) → m ≡ memory
  refusals_keep p z n o = p.1 (λ more. omega (arith, more, file_none p.0 z n o))

  -- With another memory the answer is the same, and so is the lent list.
  pub whatever_memory : (memory' : List ℕ) {a a' : Answer} {m m' l l' : List ℕ}
      → SearchedIn file budget memory lent a m l → SearchedIn file budget memory' lent a' m' l' → (a ≡ a') × (l ≡ l')
  whatever_memory memory' p p' = only_searched file budget lent p.0 p'.0
