-- `least_plan` beside `search`, by their promises alone: where neither is given up they have the same answer, but for the count of vertices, and the same starts; and
-- with a budget no smaller the least plan is not given up where the search is not.
use mathlib.Core.Path.{◌≡◌, refl}
use mathlib.Core.List.{List}
use Prim.Native.Nat.{ℕ, ◌≤◌}
use native.Mathlib.Omega.{arith}
use Rattle.schedule.specs.declared.Recorder.{Recorder}
use Rattle.planner.specs.declared.Answer.{Answer}
use Rattle.planner.specs.Promises as S
use Rattle.planner.specs.Promises.{OfFile, SearchOf, Searched}
use Rattle.planner.proofs.Larger.{Enough}
use Rattle.planner.proofs.Reading.{two_of_file}
use Rattle.cheapest.specs.Promises.{over, least, LeastPlanned, CountedLeastOf, CountedLeastPlanned}
use Rattle.cheapest.proofs.Only.{Told, only_told, least_told, counted_least_told}

-- An answer without its count.
abbrev pub uncounted : Answer → Answer
uncounted a = record { number = a.number; job = a.job; horizon = a.horizon; energy = a.energy; count = 0 }

told_of : (budget : ℕ) (lent : List ℕ) (R : Recorder) {a : Answer} {l : List ℕ} → SearchOf budget lent R a l → Enough a → Told lent R (uncounted a) l
told_of budget lent R (S.stops h) n = S.stops h
told_of budget lent R (S.passes h (S.stops b)) n = absurd (n refl)
told_of budget lent R (S.passes h (S.passes b (S.stops f))) n = S.passes h (S.stops f)
told_of budget lent R (S.passes h (S.passes b (S.passes f (S.found g)))) n = S.passes h (S.passes f (S.found g))

search_told : (file : List ℕ) (budget : ℕ) (lent : List ℕ) {a : Answer} {l : List ℕ}
    → Searched file budget lent a l → Enough a → OfFile file lent (Told lent) (uncounted a) l
search_told file budget lent (S.OfFile.refused r) n = S.OfFile.refused r
search_told file budget lent (S.OfFile.read {R = R} r t) n = S.OfFile.read r (told_of budget lent R t n)

-- The number, the horizon, the energy and the starts of the search.
pub beside_search : (file : List ℕ) (b b' : ℕ) (lent : List ℕ) {a a' : Answer} {l l' : List ℕ}
    → LeastPlanned file b lent a l → Searched file b' lent a' l' → Enough a → Enough a' → (a ≡ uncounted a') × (l ≡ l')
beside_search file b b' lent p s n n' = only_told file lent (least_told file b lent p n) (search_told file b' lent s n')

pub counted_beside_search : (file : List ℕ) (b b' : ℕ) (lent : List ℕ) {a a' : Answer} {l l' : List ℕ}
    → CountedLeastPlanned file b lent a l → Searched file b' lent a' l' → Enough a → Enough a' → (a ≡ uncounted a') × (l ≡ l')
counted_beside_search file b b' lent p s n n' = only_told file lent (counted_least_told file b lent p n) (search_told file b' lent s n')

-- ---- not given up where the search is not

also_enough : (b b' : ℕ) → b ≤ b' → (lent : List ℕ) (R : Recorder) {a a' : Answer} {l l' : List ℕ} → SearchOf b lent R a l → CountedLeastOf b' lent R a' l' → Enough a → Enough a'
also_enough b b' i lent R s (S.stops h) n e = omega arith
also_enough b b' i lent R s (S.passes h (S.stops f)) n e = omega arith
also_enough b b' i lent R (S.stops k) (S.passes h (S.passes f (over j o))) n e = h k
also_enough b b' i lent R (S.passes k (S.stops q)) (S.passes h (S.passes f (over j o))) n e = n refl
also_enough b b' i lent R (S.passes k (S.passes q t)) (S.passes h (S.passes f (over j o))) n e = q (omega (arith, i, o))
also_enough b b' i lent R s (S.passes h (S.passes f (least (S.found g)))) n e = omega arith

pub enough_together : (file : List ℕ) (b b' : ℕ) → b ≤ b' → (lent : List ℕ) {a a' : Answer} {l l' : List ℕ}
    → Searched file b lent a l → CountedLeastPlanned file b' lent a' l' → Enough a → Enough a'
enough_together file b b' i lent =
    two_of_file file lent lent (SearchOf b lent) (CountedLeastOf b' lent) (λ x m x' m'. Enough x → Enough x') (λ k n. n) (λ R v x x' m m'. also_enough b b' i lent R)

-- And then it is the search's plan: number, horizon, energy and starts.
pub same_plan : (file : List ℕ) (b b' : ℕ) → b ≤ b' → (lent : List ℕ) {a a' : Answer} {l l' : List ℕ}
    → Searched file b lent a l → CountedLeastPlanned file b' lent a' l' → Enough a → (a' ≡ uncounted a) × (l' ≡ l)
same_plan file b b' i lent s p n = counted_beside_search file b' b lent p s (enough_together file b b' i lent s p n) n
