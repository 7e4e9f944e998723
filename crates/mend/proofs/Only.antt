-- No second outcome satisfies the promise: for every input one answer, and one state of the lent lists.
use mathlib.Core.Path.{◌≡◌, refl, ap, subst}
use mathlib.Core.List.{List, ◌++◌}
use Prim.Native.Nat.{ℕ, ◌*◌}
use lib.ListN.{length, drop}
use Rattle.schedule.specs.declared.Recorder.{Recorder}
use Rattle.schedule.specs.Quantities.{jobs, Valid}
use Rattle.planner.specs.declared.Answer.{Answer}
use Rattle.planner.specs.Promises.{success, refusal_at}
use Rattle.planner.proofs.Only.{only_of_file}
use Rattle.mend.specs.Mending.{ComesOut, FirstLate, moves, numbers}
use Rattle.mend.specs.Promises as P
use Rattle.mend.specs.Promises.{Lent, lending, MendOf, Mended}
use Rattle.mend.proofs.Outcome.{one_mends, one_comes_out, one_first_late}

same_late :
    (given : List ℕ) (R : Recorder) → Valid R → {s s' : List ℕ} {j j' : ℕ} → ComesOut R given s → FirstLate R s j → ComesOut R given s' → FirstLate R s' j'
    → refusal_at 17 j ≡ refusal_at 17 j'
same_late given R v {j' = j'} o l o' l' =
    let e = one_comes_out R given o' o in
    ap (refusal_at 17) (one_first_late R given o v l (subst (λ (x : List ℕ). FirstLate R x j') e l'))

one_mend :
    (given : List ℕ) (lent : Lent) (R : Recorder) → Valid R → {a a' : Answer} {l l' : Lent} → MendOf given lent R a l → MendOf given lent R a' l'
    → (a ≡ a') × (l ≡ l')
one_mend given lent R v (P.MendOf.unequal u) (P.MendOf.unequal u') = (refl, refl)
one_mend given lent R v (P.MendOf.unequal u) (P.MendOf.short e' h') = absurd (u e')
one_mend given lent R v (P.MendOf.unequal u) (P.MendOf.late e' h' n' o' f') = absurd (u e')
one_mend given lent R v (P.MendOf.unequal u) (P.MendOf.mended e' h' m') = absurd (u e')
one_mend given lent R v (P.MendOf.short e h) (P.MendOf.unequal u') = absurd (u' e)
one_mend given lent R v (P.MendOf.short e h) (P.MendOf.short e' h') = (refl, refl)
one_mend given lent R v (P.MendOf.short e h) (P.MendOf.late e' h' n' o' f') = absurd (h h')
one_mend given lent R v (P.MendOf.short e h) (P.MendOf.mended e' h' m') = absurd (h h')
one_mend given lent R v (P.MendOf.late e h n o f) (P.MendOf.unequal u') = absurd (u' e)
one_mend given lent R v (P.MendOf.late e h n o f) (P.MendOf.short e' h') = absurd (h' h)
one_mend given lent R v (P.MendOf.late e h n o f) (P.MendOf.late e' h' n' o' f') = (same_late given R v o f o' f', refl)
one_mend given lent R v (P.MendOf.late e h n o f) (P.MendOf.mended {s = s} e' h' m') = absurd (n s m'.such)
one_mend given lent R v (P.MendOf.mended e h m) (P.MendOf.unequal u') = absurd (u' e)
one_mend given lent R v (P.MendOf.mended e h m) (P.MendOf.short e' h') = absurd (h' h)
one_mend given lent R v (P.MendOf.mended {s = s} e h m) (P.MendOf.late e' h' n' o' f') = absurd (n' s m.such)
one_mend given lent R v (P.MendOf.mended e h m) (P.MendOf.mended e' h' m') =
    let q = one_mends R given m m' in (
      ap (λ (s : List ℕ). success R.horizon 0 (length (moves given s (jobs R)))) q,
      ap (λ (s : List ℕ). lending (s ++ drop (jobs R) lent.starts)
          (numbers (moves given s (jobs R)) ++ drop (3 * length (moves given s (jobs R))) lent.moved)) q,
    )

pub only_mended : (file given : List ℕ) (lent : Lent) {a a' : Answer} {l l' : Lent} → Mended file given lent a l → Mended file given lent a' l' → (a ≡ a') × (l ≡ l')
only_mended file given lent = only_of_file file lent (MendOf given lent) (λ R v a a' l l'. one_mend given lent R v)
