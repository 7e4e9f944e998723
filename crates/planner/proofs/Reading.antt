-- Laws of the file: it reads as one thing, and one that is read has all its tables; so what an operation says of it is said of one recorder, and what two say of
-- it, of the same.
use mathlib.Core.Path.{◌≡◌, sym, subst, ◌∙◌}
use mathlib.Core.List.{List}
use Prim.Native.Nat.{ℕ}
use native.Mathlib.Omega.{arith}
use Rattle.schedule.specs.declared.Recorder.{Recorder}
use Rattle.schedule.specs.Quantities.{Valid}
use Rattle.tables.specs.Layout.{kind_of, body_of}
use Rattle.tables.specs.inside.Held.{Whole}
use Rattle.request.specs.Format.{read_of}
use Rattle.request.proofs.Accepted.{accepted_valid}
use Rattle.request.proofs.Limiting.{accepted_whole}
use Rattle.planner.specs.declared.Answer.{Answer}
use Rattle.planner.specs.Promises.{refusal, Refused, Reads, OfFile, refused, read}

pub listed_whole : (s : List ℕ) (R : Recorder) → Reads s R → Whole (kind_of s) (body_of s)
unfolding read_of
listed_whole s R r = accepted_whole (kind_of s) (body_of s) R r

same_refusal : (file : List ℕ) {n n' : ℕ} → Refused file n → Refused file n' → n ≡ n'
same_refusal file r r' = let e = sym r ∙ r' in cc

pub same_recorder : (file : List ℕ) {R R' : Recorder} → Reads file R → Reads file R' → R ≡ R'
same_recorder file r r' = let e = sym r ∙ r' in cc

pub not_both : (file : List ℕ) {n : ℕ} {R : Recorder} → Refused file n → Reads file R → ⊥
not_both file r r' = let e = sym r ∙ r' in let z : ◌≡◌ {A = ℕ} 0 1 = cc in omega arith

-- An outcome on a file that reads as R is one of R's.
pub outcome_of : {L : Type 0} (file : List ℕ) (lent : L) (Then : Recorder → Answer → L → Type 0) {R : Recorder} {a : Answer} {l : L}
    → Reads file R → OfFile file lent Then a l → Then R a l
outcome_of file lent Then r (refused r') = absurd (not_both file r' r)
outcome_of file lent Then {R} {a} {l} r (read r' t) = subst (λ (X : Recorder). Then X a l) (same_recorder file r' r) t

-- What holds of the outcomes of two operations on each recorder, and where both refuse the file, holds of them on every file.
pub two_of_file : {L L' : Type 0} (file : List ℕ) (lent : L) (lent' : L') (Then : Recorder → Answer → L → Type 0) (Then' : Recorder → Answer → L' → Type 0)
    (Both : Answer → L → Answer → L' → Type 0) → ((n : ℕ) → Both (refusal n) lent (refusal n) lent')
    → ((R : Recorder) → Valid R → (a a' : Answer) (l : L) (l' : L') → Then R a l → Then' R a' l' → Both a l a' l')
    → {a a' : Answer} {l : L} {l' : L'} → OfFile file lent Then a l → OfFile file lent' Then' a' l' → Both a l a' l'
two_of_file file lent lent' Then Then' Both none one (refused {n = n} r) (refused r') =
    subst (λ (x : ℕ). Both (refusal n) lent (refusal x) lent') (same_refusal file r r') (none n)
two_of_file file lent lent' Then Then' Both none one (refused r) (read r' t') = absurd (not_both file r r')
two_of_file file lent lent' Then Then' Both none one (read r t) (refused r') = absurd (not_both file r' r)
two_of_file file lent lent' Then Then' Both none one (read {R = R} {a = a} {after = l} r t) (read {a = a'} {after = l'} r' t') =
    one R (accepted_valid file R r) a a' l l' t (subst (λ (X : Recorder). Then' X a' l') (same_recorder file r' r) t')
