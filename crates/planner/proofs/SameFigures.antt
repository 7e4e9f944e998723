-- Files that give the same figures, of kinds that write a sleep alike, get the same answers and leave the lent memory the same: every promise over the one is a
-- promise over the other (rule 79). Of kinds that write it otherwise the search answers alike (rule 84).
use mathlib.Core.Path.{◌≡◌, sym, ap, subst, ◌∙◌}
use mathlib.Core.List.{List}
use Prim.Native.Nat.{ℕ}
use Rattle.schedule.specs.declared.Recorder.{Recorder}
use Rattle.schedule.proofs.Letters.{lettered}
use Rattle.tables.specs.Layout.{kind_of, body_of}
use Rattle.request.specs.Format.{sleeps_in, read_of}
use Rattle.request.proofs.Accepted.{accepted_as}
use Rattle.request.proofs.Marks.{Equal, one_recorder, but_for_letters}
use Rattle.planner.specs.declared.Answer.{Answer}
use Rattle.planner.specs.Promises.{Reads, OfFile, SearchOf, Searched}
use Rattle.planner.specs.Promises as P
use Rattle.planner.proofs.Letters.{search_lettered}
use Rattle.planner.proofs.Reading.{same_recorder, not_both}

module _ (f f' : List ℕ) {R R' : Recorder} (e : Equal (kind_of f) (body_of f) (kind_of f') (body_of f')) (r : Reads f R) (r' : Reads f' R') where
  pub one_reading : sleeps_in (kind_of f) ≡ sleeps_in (kind_of f') → R ≡ R'
  unfolding read_of
  one_reading d =
      sym (accepted_as (kind_of f) (body_of f) R r).1 ∙ one_recorder (kind_of f) (body_of f) (kind_of f') (body_of f') e d ∙ (accepted_as (kind_of f') (body_of f') R' r').1

  pub equal_plans : {L : Type 0} (lent : L) (Then : Recorder → Answer → L → Type 0) → sleeps_in (kind_of f) ≡ sleeps_in (kind_of f')
      → {a : Answer} {l : L} → OfFile f lent Then a l → OfFile f' lent Then a l
  equal_plans lent Then d (P.OfFile.refused q) = absurd (not_both f q r)
  equal_plans lent Then d (P.OfFile.read {a = a} {after = l} q t) =
      P.OfFile.read r' (subst (λ (Y : Recorder). Then Y a l) (same_recorder f q r ∙ one_reading d) t)

  -- The readings differ in how a sleep is written, if at all, and so the searches do not.
  letters_apart : R ≡ lettered (sleeps_in (kind_of f)) R'
  unfolding read_of
  letters_apart =
      sym (accepted_as (kind_of f) (body_of f) R r).1
      ∙ but_for_letters (kind_of f) (body_of f) (kind_of f') (body_of f') e
      ∙ ap (lettered (sleeps_in (kind_of f))) (accepted_as (kind_of f') (body_of f') R' r').1

  pub equal_searches : (budget : ℕ) (lent : List ℕ) {a : Answer} {l : List ℕ} → Searched f' budget lent a l → Searched f budget lent a l
  equal_searches budget lent (P.OfFile.refused q) = absurd (not_both f' q r')
  equal_searches budget lent (P.OfFile.read {a = a} {after = l} q t) =
      P.OfFile.read r (subst (λ (Y : Recorder). SearchOf budget lent Y a l) (sym letters_apart)
      (search_lettered (sleeps_in (kind_of f)) budget lent R' (subst (λ (Y : Recorder). SearchOf budget lent Y a l) (same_recorder f' q r') t)))
