-- No second outcome satisfies what `floe_least` promises, but for 20: two outcomes that are no 20 have one number and one state of both buffers, whatever the memories
-- and the budgets; and so have two that are 20 with one budget.
use mathlib.Core.Path.{◌≡◌}
use mathlib.Core.List.{List}
use mathlib.Core.Logic.{⊎_elim}
use Prim.Native.Nat.{ℕ}
use Rattle.schedule.specs.declared.Recorder.{Recorder}
use Rattle.planner.specs.declared.Answer.{Answer}
use Rattle.planner.specs.Promises as Frame
use Rattle.calls.specs.Calls as Calls
use Rattle.calls.specs.Calls.{blank, Roomed, StartsOf, StartsCalled}
use Rattle.calls.proofs.Only.{only_starts_called}
use Rattle.calls_least.specs.LeastCall.{LeastCalled, LeastInCalled}
use Rattle.request.proofs.Accepted.{accepted_valid}
use Rattle.cheapest.specs.Promises.{LeastOf, CountedLeastOf}
use Rattle.cheapest.proofs.Weaker.{weakened}
use Rattle.cheapest.proofs.Only.{Told, one_told, told_of, Over, over_of, one_over}

-- What is promised of one answer may be exchanged for another promise.
exchanged : (Plans Plans' : List ℕ → Recorder → Answer → List ℕ → Type 0) (result lent : List ℕ) (R : Recorder) {a : Answer}
    {l : List ℕ} → ((s : List ℕ) → Plans (blank lent) R a s → Plans' (blank lent) R a s)
    → Roomed result lent (StartsOf Plans lent R) a l → Roomed result lent (StartsOf Plans' lent R) a l
unfolding StartsOf
exchanged Plans Plans' result lent R f (Frame.Unless.stops h) = Frame.Unless.stops h
exchanged Plans Plans' result lent R f (Frame.Unless.passes h (Calls.Spelled.kept n x)) = Frame.Unless.passes h (Calls.Spelled.kept n (f _ x))
exchanged Plans Plans' result lent R f (Frame.Unless.passes h (Calls.Spelled.given z x)) = Frame.Unless.passes h (Calls.Spelled.given z (f _ x))

module _ (file lent result : List ℕ) where
  -- What is not given up.
  told_called : (b : ℕ) {n : ℕ} {l r : List ℕ} → LeastCalled file b lent result n l r → (n ≡ 20 → ⊥) → StartsCalled Told file lent result n l r
  told_called b (Calls.Called.called (Frame.OfFile.refused r)) e = Calls.Called.called (Frame.OfFile.refused r)
  told_called b (Calls.Called.called (Frame.OfFile.read {R = R} r t)) e = Calls.Called.called (Frame.OfFile.read r (exchanged (LeastOf b) Told result lent R (λ s x. told_of b (blank lent) R x e) t))

  pub only_least_called : (b b' : ℕ) {n n' : ℕ} {l l' r r' : List ℕ} → LeastCalled file b lent result n l r → LeastCalled file b' lent result n' l' r'
      → (n ≡ 20 → ⊥) → (n' ≡ 20 → ⊥) → (n ≡ n') × (r ≡ r') × (l ≡ l')
  only_least_called b b' p p' e e' =
      only_starts_called Told one_told file lent result (told_called b p e) (told_called b' p' e')

  -- What is given up.
  module _ (b : ℕ) where
    over_called : {n : ℕ} {l r : List ℕ} → LeastCalled file b lent result n l r → n ≡ 20 → StartsCalled (λ given R. Over b given) file lent result n l r
    over_called (Calls.Called.called (Frame.OfFile.refused r)) e = Calls.Called.called (Frame.OfFile.refused r)
    over_called (Calls.Called.called (Frame.OfFile.read {R = R} r t)) e = Calls.Called.called (Frame.OfFile.read r (exchanged (LeastOf b) (λ given R. Over b given) result lent R (λ s x. over_of b (blank lent) R x e) t))

    pub only_call_given_up : {n n' : ℕ} {l l' r r' : List ℕ} → LeastCalled file b lent result n l r → LeastCalled file b lent result n' l' r'
        → n ≡ 20 → n' ≡ 20 → (n ≡ n') × (r ≡ r') × (l ≡ l')
    only_call_given_up p p' e e' =
        only_starts_called (λ given R. Over b given) (λ given R v a a' l l' o o'. one_over b given o o') file lent result (over_called p e) (over_called p' e')

  -- ---- the same with the memory

  pub less_called : (b : ℕ) {n : ℕ} {memory m l r : List ℕ} → LeastInCalled file b memory lent result n m l r → LeastCalled file b lent result n l r
  less_called b (Calls.CalledIn.called_in (Frame.OfFile.refused r) k) = Calls.Called.called (Frame.OfFile.refused r)
  less_called b (Calls.CalledIn.called_in (Frame.OfFile.read {R = R} r t) k) = Calls.Called.called (Frame.OfFile.read r (exchanged (CountedLeastOf b) (LeastOf b) result lent R (λ s. weakened R (accepted_valid file R r)) t))

  pub only_least_in_called : (b b' : ℕ) {n n' : ℕ} {memory memory' m m' l l' r r' : List ℕ} → LeastInCalled file b memory lent result n m l r → LeastInCalled file b' memory' lent result n' m' l' r'
      → (n ≡ 20 → ⊥) → (n' ≡ 20 → ⊥) → (n ≡ n') × (r ≡ r') × (l ≡ l')
  only_least_in_called b b' p p' = only_least_called b b' (less_called b p) (less_called b' p')

  pub only_in_call_given_up : (b : ℕ) {n n' : ℕ} {memory memory' m m' l l' r r' : List ℕ} → LeastInCalled file b memory lent result n m l r → LeastInCalled file b memory' lent result n' m' l' r'
      → n ≡ 20 → n' ≡ 20 → (n ≡ n') × (r ≡ r') × (l ≡ l')
  only_in_call_given_up b p p' = only_call_given_up b (less_called b p) (less_called b p')

  -- The memory is kept with every number but 0 and 20.
  pub least_call_kept : (b : ℕ) {n : ℕ} {memory m l r : List ℕ} → LeastInCalled file b memory lent result n m l r → (n ≡ 0 → ⊥) → (n ≡ 20 → ⊥) → m ≡ memory
  least_call_kept b (Calls.CalledIn.called_in p k) z o = k (λ s. ⊎_elim z o s)
