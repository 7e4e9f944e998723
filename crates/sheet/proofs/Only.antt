-- No second outcome satisfies a promise: for every input each of the five relations has one answer, and one state of the lent bytes.
use mathlib.Core.Path.{◌≡◌, refl, sym, ap, subst, ◌∙◌}
use mathlib.Core.List.{List, [], ◌∷◌, map}
use Prim.Native.Nat.{ℕ}
use native.Mathlib.Omega.{arith}
use lib.IntN.{pos, nat_abs}
use lib.ListN.{length, replicate}
use Rattle.planner.specs.declared.Answer.{Answer}
use Rattle.planner.specs.Promises.{Margined}
use Rattle.planner.proofs.Only.{only_judged, only_margined}
use Rattle.sheet.specs.Sheets.{plan_text}
use Rattle.sheet.specs.Promises.{Filled, ImportedDevices, ImportedJobs, ExportedDevices, ExportedJobs, ExportedPlan}
use Rattle.sheet.specs.Promises as P

pub only_filled : (fault horizon count : ℕ) (made lent : List ℕ) {a a' : Answer} {m m' : List ℕ}
    → Filled fault horizon count made lent a m → Filled fault horizon count made lent a' m' → (a ≡ a') × (m ≡ m')
only_filled fault horizon count made lent (P.Filled.refused n) (P.Filled.refused n') = (refl, refl)
only_filled fault horizon count made lent (P.Filled.refused n) (P.Filled.short e h) = absurd (n e)
only_filled fault horizon count made lent (P.Filled.refused n) (P.Filled.given e h) = absurd (n e)
only_filled fault horizon count made lent (P.Filled.short e h) (P.Filled.refused n) = absurd (n e)
only_filled fault horizon count made lent (P.Filled.short e h) (P.Filled.short e' h') = (refl, refl)
only_filled fault horizon count made lent (P.Filled.short e h) (P.Filled.given e' h') = absurd (omega arith)
only_filled fault horizon count made lent (P.Filled.given e h) (P.Filled.refused n) = absurd (n e)
only_filled fault horizon count made lent (P.Filled.given e h) (P.Filled.short e' h') = absurd (omega arith)
only_filled fault horizon count made lent (P.Filled.given e h) (P.Filled.given e' h') = (refl, refl)

pub only_imported_devices : (text lent : List ℕ) {a a' : Answer} {m m' : List ℕ} → ImportedDevices text lent a m → ImportedDevices text lent a' m' → (a ≡ a') × (m ≡ m')
only_imported_devices text lent = only_filled _ _ _ _ lent

pub only_imported_jobs : (text lent : List ℕ) {a a' : Answer} {m m' : List ℕ} → ImportedJobs text lent a m → ImportedJobs text lent a' m' → (a ≡ a') × (m ≡ m')
only_imported_jobs text lent = only_filled _ _ _ _ lent

pub only_exported_devices : (catalogue lent : List ℕ) {a a' : Answer} {m m' : List ℕ} → ExportedDevices catalogue lent a m → ExportedDevices catalogue lent a' m' → (a ≡ a') × (m ≡ m')
only_exported_devices catalogue lent = only_filled _ _ _ _ lent

pub only_exported_jobs : (records lent : List ℕ) {a a' : Answer} {m m' : List ℕ} → ExportedJobs records lent a m → ExportedJobs records lent a' m' → (a ≡ a') × (m ≡ m')
only_exported_jobs records lent = only_filled _ _ _ _ lent

-- The plan: one verdict, and one list of margins.
-- A margin read back from its natural number.
back_natural : (ms : List ℕ) → map nat_abs (map pos ms) ≡ ms
back_natural [] = refl
back_natural (m ∷ ms) = ap {B = List ℕ} (λ x. m ∷ x) (back_natural ms)

module _ (file starts lent : List ℕ) where
  one_list : {f f' : Answer} (ms ms' : List ℕ) → Margined file starts (replicate 16 (pos 0)) f (map pos ms) → Margined file starts (replicate 16 (pos 0)) f' (map pos ms') → ms ≡ ms'
  one_list ms ms' p p' = sym (back_natural ms) ∙ ap (map nat_abs) (only_margined file starts (replicate 16 (pos 0)) p p').1 ∙ back_natural ms'

  pub only_exported_plan : {a a' : Answer} {m m' : List ℕ} → ExportedPlan file starts lent a m → ExportedPlan file starts lent a' m' → (a ≡ a') × (m ≡ m')
  only_exported_plan (P.ExportedPlan.refused j n) (P.ExportedPlan.refused j' n') = (only_judged file starts j j', refl)
  only_exported_plan (P.ExportedPlan.refused j n) (P.ExportedPlan.planned ms j' z' p' f') = absurd (n (ap (λ (x : Answer). x.number) (only_judged file starts j j') ∙ z'))
  only_exported_plan (P.ExportedPlan.planned ms j z p f) (P.ExportedPlan.refused j' n') = absurd (n' (ap (λ (x : Answer). x.number) (only_judged file starts j' j) ∙ z))
  only_exported_plan (P.ExportedPlan.planned {verdict = v} ms j z p f) (P.ExportedPlan.planned {verdict = v'} {a = a'} {after = m'} ms' j' z' p' f') =
      only_filled 0 v.horizon (length (plan_text starts ms)) (plan_text starts ms) lent f
      (subst (λ (l : List ℕ). Filled 0 v.horizon (length (plan_text starts l)) (plan_text starts l) lent a' m') (one_list ms' ms p' p)
      (subst (λ (x : Answer). Filled 0 x.horizon (length (plan_text starts ms')) (plan_text starts ms') lent a' m') (only_judged file starts j' j) f'))
