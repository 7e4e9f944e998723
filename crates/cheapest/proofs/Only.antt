-- No second outcome satisfies the promise of `least_plan`, but for its 20: of one file and one lent list all outcomes that are no 20 are the same, also with two
-- memories, which the promise does not name, or with two budgets; and two outcomes of 20 with one budget are the same. Of both promises: a law of the stronger one has
-- counted_ before the name of the other's.
use mathlib.Core.Path.{◌≡◌, refl, sym, ◌∙◌}
use mathlib.Core.Logic.{◌↔◌}
use mathlib.Core.List.{List}
use Prim.Native.Nat.{ℕ, ◌≤◌, ◌<◌}
use native.Mathlib.Omega.{arith}
use lib.ListN.{length}
use Rattle.schedule.specs.declared.Recorder.{Recorder}
use Rattle.schedule.specs.Quantities.{jobs, Valid}
use Rattle.schedule.specs.Listing.{Feasible}
use Rattle.schedule.specs.Visiting.{vertices}
use Rattle.planner.specs.declared.Answer.{Answer}
use Rattle.planner.specs.Promises as Frame
use Rattle.planner.specs.Promises.{refusal, refusal_after, Unless, stops, passes, Reads, OfFile, GivesLeast, found, KeptUnless}
use Rattle.planner.proofs.Larger.{Enough}
use Rattle.planner.proofs.Reading.{outcome_of}
use Rattle.planner.proofs.Refusing.{One, one_unless}
use Rattle.planner.proofs.Only.{only_of_file, one_least, only_kept}
use Rattle.least.specs.Effort.{most_vertices}
use Rattle.cheapest.specs.Promises.{over, least, LeastOf, LeastPlanned, CountedLeastOf, CountedLeastPlanned, Sought, LeastPlannedIn}

-- ---- what is not given up

-- The outcomes that no budget decides.
abbrev pub Told : (lent : List ℕ) → Recorder → Answer → List ℕ → Type 0
Told lent R =
    Unless (length lent < jobs R) (refusal 15) lent
    (Unless ((s : List ℕ) → Feasible R s → ⊥) (refusal 19) lent
    (GivesLeast R 0 lent))

pub one_told : (lent : List ℕ) (R : Recorder) → Valid R → One (Told lent R)
one_told lent R v = one_unless (one_unless (one_least R v 0 lent))

pub only_told : (file lent : List ℕ) {a a' : Answer} {l l' : List ℕ} → OfFile file lent (Told lent) a l → OfFile file lent (Told lent) a' l' → (a ≡ a') × (l ≡ l')
only_told file lent = only_of_file file lent (Told lent) (one_told lent)

pub told_of : (budget : ℕ) (lent : List ℕ) (R : Recorder) {a : Answer} {l : List ℕ} → LeastOf budget lent R a l → Enough a → Told lent R a l
told_of budget lent R (stops h) n = stops h
told_of budget lent R (passes h (stops f)) n = passes h (stops f)
told_of budget lent R (passes h (passes f (over b))) n = absurd (n refl)
told_of budget lent R (passes h (passes f (least g))) n = passes h (passes f g)

pub counted_told_of : (budget : ℕ) (lent : List ℕ) (R : Recorder) {a : Answer} {l : List ℕ} → CountedLeastOf budget lent R a l → Enough a → Told lent R a l
counted_told_of budget lent R (stops h) n = stops h
counted_told_of budget lent R (passes h (stops f)) n = passes h (stops f)
counted_told_of budget lent R (passes h (passes f (over j b))) n = absurd (n refl)
counted_told_of budget lent R (passes h (passes f (least g))) n = passes h (passes f g)

pub least_told : (file : List ℕ) (budget : ℕ) (lent : List ℕ) {a : Answer} {l : List ℕ} → LeastPlanned file budget lent a l → Enough a → OfFile file lent (Told lent) a l
least_told file budget lent (Frame.OfFile.refused r) n = Frame.OfFile.refused r
least_told file budget lent (Frame.OfFile.read {R = R} r t) n = Frame.OfFile.read r (told_of budget lent R t n)

pub counted_least_told : (file : List ℕ) (budget : ℕ) (lent : List ℕ) {a : Answer} {l : List ℕ} → CountedLeastPlanned file budget lent a l → Enough a → OfFile file lent (Told lent) a l
counted_least_told file budget lent (Frame.OfFile.refused r) n = Frame.OfFile.refused r
counted_least_told file budget lent (Frame.OfFile.read {R = R} r t) n = Frame.OfFile.read r (counted_told_of budget lent R t n)

-- Whatever the two budgets: one answer, and one state of the lent list.
pub only_least_plan : (file : List ℕ) (b b' : ℕ) (lent : List ℕ) {a a' : Answer} {l l' : List ℕ}
    → LeastPlanned file b lent a l → LeastPlanned file b' lent a' l' → Enough a → Enough a' → (a ≡ a') × (l ≡ l')
only_least_plan file b b' lent p p' n n' = only_told file lent (least_told file b lent p n) (least_told file b' lent p' n')

pub counted_only_least_plan : (file : List ℕ) (b b' : ℕ) (lent : List ℕ) {a a' : Answer} {l l' : List ℕ}
    → CountedLeastPlanned file b lent a l → CountedLeastPlanned file b' lent a' l' → Enough a → Enough a' → (a ≡ a') × (l ≡ l')
counted_only_least_plan file b b' lent p p' n n' = only_told file lent (counted_least_told file b lent p n) (counted_least_told file b' lent p' n')

-- And one state of the lent memory, where no plan was looked for.
pub only_least_plan_in : (file : List ℕ) (b b' : ℕ) (memory lent : List ℕ) {a a' : Answer} {m m' l l' : List ℕ}
    → LeastPlannedIn file b memory lent a m l → LeastPlannedIn file b' memory lent a' m' l' → Enough a → Enough a' → (a ≡ a') × (l ≡ l') × KeptUnless (Sought a) m m'
only_least_plan_in file b b' memory lent p p' n n' =
    let e = counted_only_least_plan file b b' lent p.0 p'.0 n n' in
    (e.0, e.1, only_kept Sought e.0 p.1 p'.1)

-- ---- what is given up

-- The answer is the budget, and the lent list stays as it was.
pub record Over (budget : ℕ) (lent : List ℕ) (a : Answer) (l : List ℕ) : Type 0 where
  pub answer : a ≡ refusal_after 20 budget
  pub kept : l ≡ lent

pub over_of : (budget : ℕ) (lent : List ℕ) (R : Recorder) {a : Answer} {l : List ℕ} → LeastOf budget lent R a l → a.number ≡ 20 → Over budget lent a l
over_of budget lent R (stops h) e = absurd (omega arith)
over_of budget lent R (passes h (stops f)) e = absurd (omega arith)
over_of budget lent R (passes h (passes f (over b))) e = record { answer = refl; kept = refl }
over_of budget lent R (passes h (passes f (least (found g)))) e = absurd (omega arith)

pub counted_over_of : (budget : ℕ) (lent : List ℕ) (R : Recorder) {a : Answer} {l : List ℕ} → CountedLeastOf budget lent R a l → a.number ≡ 20 → Over budget lent a l
counted_over_of budget lent R (stops h) e = absurd (omega arith)
counted_over_of budget lent R (passes h (stops f)) e = absurd (omega arith)
counted_over_of budget lent R (passes h (passes f (over j b))) e = record { answer = refl; kept = refl }
counted_over_of budget lent R (passes h (passes f (least (found g)))) e = absurd (omega arith)

pub one_over : (budget : ℕ) (lent : List ℕ) {a a' : Answer} {l l' : List ℕ} → Over budget lent a l → Over budget lent a' l' → (a ≡ a') × (l ≡ l')
one_over budget lent o o' = (o.answer ∙ sym o'.answer, o.kept ∙ sym o'.kept)

least_over : (file : List ℕ) (budget : ℕ) (lent : List ℕ) {a : Answer} {l : List ℕ}
    → LeastPlanned file budget lent a l → a.number ≡ 20 → OfFile file lent (λ R. Over budget lent) a l
least_over file budget lent (Frame.OfFile.refused r) e = Frame.OfFile.refused r
least_over file budget lent (Frame.OfFile.read {R = R} r t) e = Frame.OfFile.read r (over_of budget lent R t e)

pub only_given_up : (file : List ℕ) (budget : ℕ) (lent : List ℕ) {a a' : Answer} {l l' : List ℕ}
    → LeastPlanned file budget lent a l → LeastPlanned file budget lent a' l' → a.number ≡ 20 → a'.number ≡ 20 → (a ≡ a') × (l ≡ l')
only_given_up file budget lent p p' e e' =
    only_of_file file lent (λ R. Over budget lent) (λ R v a a' l l' o o'. one_over budget lent o o') (least_over file budget lent p e) (least_over file budget lent p' e')

counted_least_over : (file : List ℕ) (budget : ℕ) (lent : List ℕ) {a : Answer} {l : List ℕ}
    → CountedLeastPlanned file budget lent a l → a.number ≡ 20 → OfFile file lent (λ R. Over budget lent) a l
counted_least_over file budget lent (Frame.OfFile.refused r) e = Frame.OfFile.refused r
counted_least_over file budget lent (Frame.OfFile.read {R = R} r t) e = Frame.OfFile.read r (counted_over_of budget lent R t e)

pub counted_only_given_up : (file : List ℕ) (budget : ℕ) (lent : List ℕ) {a a' : Answer} {l l' : List ℕ}
    → CountedLeastPlanned file budget lent a l → CountedLeastPlanned file budget lent a' l' → a.number ≡ 20 → a'.number ≡ 20 → (a ≡ a') × (l ≡ l')
counted_only_given_up file budget lent p p' e e' =
    only_of_file file lent (λ R. Over budget lent) (λ R v a a' l l' o o'. one_over budget lent o o') (counted_least_over file budget lent p e) (counted_least_over file budget lent p' e')

-- ---- of a file that is read as a recorder

module _ (file : List ℕ) (budget : ℕ) (lent : List ℕ) (R : Recorder) (reads : Reads file R) where
  -- With a budget of all the vertices that can be needed it is never given up,
  pub all_enough : most_vertices R ≤ budget → {a : Answer} {l : List ℕ} → LeastPlanned file budget lent a l → Enough a
  all_enough h p = go (outcome_of file lent (LeastOf budget lent) reads p)
    where
      go : {a : Answer} {l : List ℕ} → LeastOf budget lent R a l → Enough a
      go (stops k) e = omega arith
      go (passes k (stops f)) e = omega arith
      go (passes k (passes f (over b))) e = omega arith
      go (passes k (passes f (least (found g)))) e = omega arith

  -- nor with one that covers the vertices of the visiting order.
  pub counted_all_enough : vertices R ≤ budget → {a : Answer} {l : List ℕ} → CountedLeastPlanned file budget lent a l → Enough a
  counted_all_enough h p = go (outcome_of file lent (CountedLeastOf budget lent) reads p)
    where
      go : {a : Answer} {l : List ℕ} → CountedLeastOf budget lent R a l → Enough a
      go (stops k) e = omega arith
      go (passes k (stops f)) e = omega arith
      go (passes k (passes f (over j b))) e = omega arith
      go (passes k (passes f (least (found g)))) e = omega arith

  -- With room for the starts, 19 is the answer exactly if there is no feasible schedule, whatever the budget.
  pub none_exactly : jobs R ≤ length lent → {a : Answer} {l : List ℕ} → LeastPlanned file budget lent a l → (a.number ≡ 19) ↔ ((s : List ℕ) → Feasible R s → ⊥)
  none_exactly room p = go (outcome_of file lent (LeastOf budget lent) reads p)
    where
      go : {a : Answer} {l : List ℕ} → LeastOf budget lent R a l → (a.number ≡ 19) ↔ ((s : List ℕ) → Feasible R s → ⊥)
      go (stops h) = absurd (omega arith)
      go (passes h (stops f)) = ((λ e. f), (λ g. refl))
      go (passes h (passes f (over b))) = ((λ e. absurd (omega arith)), (λ g. absurd (f g)))
      go (passes h (passes f (least (found g)))) = ((λ e. absurd (omega arith)), (λ n. absurd (f n)))

  pub counted_none_exactly :
      jobs R ≤ length lent → {a : Answer} {l : List ℕ} → CountedLeastPlanned file budget lent a l → (a.number ≡ 19) ↔ ((s : List ℕ) → Feasible R s → ⊥)
  counted_none_exactly room p = go (outcome_of file lent (CountedLeastOf budget lent) reads p)
    where
      go : {a : Answer} {l : List ℕ} → CountedLeastOf budget lent R a l → (a.number ≡ 19) ↔ ((s : List ℕ) → Feasible R s → ⊥)
      go (stops h) = absurd (omega arith)
      go (passes h (stops f)) = ((λ e. f), (λ g. refl))
      go (passes h (passes f (over j b))) = ((λ e. absurd (omega arith)), (λ g. absurd (f g)))
      go (passes h (passes f (least (found g)))) = ((λ e. absurd (omega arith)), (λ n. absurd (f n)))
