-- Laws of the order of refusals (`Unless`): it has one outcome if the rest has; what it answers where it does not refuse; and the same of two states of the
-- lent memory. What it says is what two cases say: the test and the answer, or not the test and the rest.
use mathlib.Core.Path.{◌≡◌, refl}
use mathlib.Core.Bool.{Bool, true, false}
use mathlib.Core.List.{List}
use mathlib.Core.Logic.{◌⊎◌, inl, inr}
use Prim.Native.Nat.{ℕ, ◌≤◌, ◌<◌}
use native.Mathlib.Omega.{arith}
use lib.Dec.{eqb}
use borrow.Author.Tests.{eqb-true, eqb-false}
use Rattle.schedule.specs.declared.Recorder.{Recorder}
use Rattle.schedule.specs.Listing.{Feasible}
use Rattle.schedule.proofs.Judgements.{fault_one, fault_some, fault_infeasible}
use Rattle.planner.specs.declared.Answer.{Answer}
use Rattle.planner.specs.Promises.{Unless, stops, passes, UnlessFaulty, Gives, gives, GivesSuch, gives_such}
use Rattle.planner.specs.Promises as P

-- ---- one outcome

abbrev pub One : {L : Type 0} → (Answer → L → Type 0) → Type 0
One {L} X = (a a' : Answer) (l l' : L) → X a l → X a' l' → (a ≡ a') × (l ≡ l')

-- Of two whose tests hold together: what holds of both refusals, and of what follows where neither is, holds of them.
pub two_unless : {L L' Test Test' : Type 0} {a a' : Answer} {lent : L} {lent' : L'} {Rest : Answer → L → Type 0} {Rest' : Answer → L' → Type 0}
    (Both : Answer → L → Answer → L' → Type 0) → (Test → Test') → (Test' → Test) → Both a lent a' lent'
    → ((b b' : Answer) (l : L) (l' : L') → Rest b l → Rest' b' l' → Both b l b' l')
    → (b b' : Answer) (l : L) (l' : L') → Unless Test a lent Rest b l → Unless Test' a' lent' Rest' b' l' → Both b l b' l'
two_unless Both there back both rest b b' l l' (stops t) (stops t') = both
two_unless Both there back both rest b b' l l' (stops t) (passes n r) = absurd (n (there t))
two_unless Both there back both rest b b' l l' (passes n r) (stops t) = absurd (n (back t))
two_unless Both there back both rest b b' l l' (passes n r) (passes n' r') = rest b b' l l' r r'

module _ {L : Type 0} {lent : L} {Rest : Answer → L → Type 0} where
  pub one_unless : {Test : Type 0} {a : Answer} → One Rest → One (Unless Test a lent Rest)
  one_unless = two_unless (λ a l a' l'. (a ≡ a') × (l ≡ l')) (λ t. t) (λ t. t) (refl, refl)

  pub one_unless_faulty : (R : Recorder) (starts : List ℕ) → One Rest → One (UnlessFaulty R starts lent Rest)
  one_unless_faulty R starts one b b' l l' (P.UnlessFaulty.faulty f) (P.UnlessFaulty.faulty f') =
      let p = fault_one R starts f f' in
      let n = p.0 in
      let j = p.1 in
      (cc, refl)
  one_unless_faulty R starts one b b' l l' (P.UnlessFaulty.faulty f) (P.UnlessFaulty.feasible g r) = absurd (fault_infeasible R starts f g)
  one_unless_faulty R starts one b b' l l' (P.UnlessFaulty.feasible g r) (P.UnlessFaulty.faulty f) = absurd (fault_infeasible R starts f g)
  one_unless_faulty R starts one b b' l l' (P.UnlessFaulty.feasible g r) (P.UnlessFaulty.feasible g' r') = one b b' l l' r r'

pub one_gives : {L : Type 0} {a : Answer} {after : L} → One (Gives a after)
one_gives b b' l l' gives gives = (refl, refl)

pub one_such : {L X : Type 0} {Such : X → Type 0} {a : X → Answer} {after : X → L}
    → ((x y : X) → Such x → Such y → (a x ≡ a y) × (after x ≡ after y)) → One (GivesSuch Such a after)
one_such one b b' l l' (gives_such {x = x} p) (gives_such {x = y} q) = one x y p q

pub gives_is : {L : Type 0} {a : Answer} {after : L} {b : Answer} {l : L} → Gives a after b l → (b ≡ a) × (l ≡ after)
gives_is gives = (refl, refl)

-- ---- what it says

pub unless_says : {L : Type 0} {Test : Type 0} {a : Answer} {lent : L} {Rest : Answer → L → Type 0} {b : Answer} {l : L}
    → Unless Test a lent Rest b l → (Test × (b ≡ a) × (l ≡ lent)) ⊎ ((Test → ⊥) × Rest b l)
unless_says (stops t) = inl (t, refl, refl)
unless_says (passes n r) = inr (n, r)

pub says_unless : {L : Type 0} {Test : Type 0} {a : Answer} {lent : L} {Rest : Answer → L → Type 0} {b : Answer} {l : L}
    → (Test × (b ≡ a) × (l ≡ lent)) ⊎ ((Test → ⊥) × Rest b l) → Unless Test a lent Rest b l
says_unless (inl p) = rw (p.1, p.2) (stops p.0)
says_unless (inr p) = passes p.0 p.1

-- ---- tests that are passed

module _ {L : Type 0} {lent : L} {Rest : Answer → L → Type 0} {a b : Answer} {l : L} where
  -- There are as many as there must be,
  pub unless_equal : {m n : ℕ} → m ≡ n → Rest b l → Unless (m ≡ n → ⊥) a lent Rest b l
  unless_equal e r = passes (λ u. u e) r

  -- or enough of them.
  pub unless_enough : {m n : ℕ} → n ≤ m → Rest b l → Unless (m < n) a lent Rest b l
  unless_enough h r = passes (λ s. omega (arith, s, h)) r

  -- There is a feasible schedule.
  pub unless_some : {R : Recorder} {s : List ℕ} → Feasible R s → Rest b l → Unless ((s : List ℕ) → Feasible R s → ⊥) a lent Rest b l
  unless_some {s = s} f r = passes (λ none. none s f) r

-- The test of 14 failed.
pub equal : (m n : ℕ) → ((m ≡ n → ⊥) → ⊥) → m ≡ n
equal m n h = go (eqb m n) refl
  where
    go : (b : Bool) → eqb m n ≡ b → m ≡ n
    go true e = eqb-true m n e
    go false e = absurd (h (eqb-false m n e))

-- ---- where it does not refuse

module _ {L : Type 0} {lent : L} {Rest : Answer → L → Type 0} where
  pub unless_met : {Test : Type 0} {a b : Answer} {l : L} → b.number ≡ 0 → (a.number ≡ 0 → ⊥) → Unless Test a lent Rest b l → (Test → ⊥) × Rest b l
  unless_met z n (stops t) = absurd (n z)
  unless_met z n (passes k r) = (k, r)

  pub faulty_met : (R : Recorder) (starts : List ℕ) {b : Answer} {l : L} → b.number ≡ 0 → UnlessFaulty R starts lent Rest b l → Feasible R starts × Rest b l
  faulty_met R starts z (P.UnlessFaulty.faulty f) = absurd (fault_some R starts f z)
  faulty_met R starts z (P.UnlessFaulty.feasible g r) = (g, r)

-- ---- of two states of the lent memory

module _ {L M : Type 0} {own : L} {lent : M} {Rest : Answer → L → Type 0} {Rest' : Answer → M → Type 0} where
  -- A refusal stays what it is, if the tests hold of both or of neither.
  pub unless_kept : {Test Test' : Type 0} {a b : Answer} {l : L} → (Test → Test') → (Test' → Test) → (Rest b l → Rest' b lent)
      → Unless Test a own Rest b l → Unless Test' a lent Rest' b lent
  unless_kept there back rest (stops t) = stops (there t)
  unless_kept there back rest (passes n r) = passes (λ t. n (back t)) (rest r)

  pub faulty_kept : (R : Recorder) (starts : List ℕ) {b : Answer} {l : L} → (Rest b l → Rest' b lent)
      → UnlessFaulty R starts own Rest b l → UnlessFaulty R starts lent Rest' b lent
  faulty_kept R starts rest (P.UnlessFaulty.faulty f) = P.UnlessFaulty.faulty f
  faulty_kept R starts rest (P.UnlessFaulty.feasible g r) = P.UnlessFaulty.feasible g (rest r)

-- Where the test holds, it alone decides.
pub unless_alike : {L : Type 0} {Test Test' : Type 0} {a : Answer} {lent : L} {Rest Rest' : Answer → L → Type 0} {b : Answer} {l : L}
    → Test → Test' → Unless Test a lent Rest b l → Unless Test' a lent Rest' b l
unless_alike t t' (stops u) = stops t'
unless_alike t t' (passes n r) = absurd (n t)
