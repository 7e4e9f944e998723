-- The round trips over the operations' own outcomes: what an export wrote is imported as the table that was exported, and what was imported from it is exported
-- as the same text.
use mathlib.Core.Path.{◌≡◌, refl, sym, ap, subst, ◌∙◌}
use mathlib.Core.List.{List, ◌++◌}
use Prim.Native.Nat.{ℕ, ◌≤◌}
use native.Mathlib.Omega.{arith}
use lib.ListN.{length, take, drop}
use lib.Seq.{take_at}
use Rattle.tables.specs.Layout.{Bytes}
use Rattle.planner.specs.declared.Answer.{Answer}
use Rattle.planner.specs.Promises.{success}
use Rattle.base.specs.Bytes.{pieces}
use Rattle.catalogue.specs.Parts.{parts_of}
use Rattle.sheet.specs.Sheets.{catalogue_of, records_of, parts_in, jobs_in, parts_fault, records_fault, devices_refused, jobs_refused, devices_text, jobs_text, jobs_of}
use Rattle.sheet.specs.Promises.{Filled, ImportedDevices, ImportedJobs, ExportedDevices, ExportedJobs}
use Rattle.sheet.specs.Promises as P
use Rattle.sheet.proofs.Round.{devices_round, jobs_round}

-- What was filled stands at the front.
front_filled : {fault horizon count : ℕ} (made lent : List ℕ) {a : Answer} {after : List ℕ} → Filled fault horizon count made lent a after → a.number ≡ 0
    → (fault ≡ 0) × (take (length made) after ≡ made) × (a.count ≡ count)
front_filled made lent (P.Filled.refused n) z = absurd (n z)
front_filled made lent (P.Filled.short e h) z = absurd (omega (arith, z))
front_filled made lent (P.Filled.given e h) z = (e, take_at made (drop (length made) lent) (length made) refl, refl)

-- Of any table: what refuses it, its text, what refuses a text, its lines and the table that it makes.
module _ (fault : List ℕ → ℕ) (text : List ℕ → List ℕ) (refused lines : List ℕ → ℕ) (made : List ℕ → List ℕ) where
  abbrev Exported : (table lent : List ℕ) → Answer → List ℕ → Type 0
  Exported table = Filled (fault table) 0 (length (text table)) (text table)

  abbrev Imported : (sheet lent : List ℕ) → Answer → List ℕ → Type 0
  Imported sheet = Filled (refused sheet) 0 (lines sheet) (made sheet)

  module _ (table : List ℕ) (again : fault table ≡ 0 → (refused (text table) ≡ 0) × (made (text table) ≡ table)) (lent : List ℕ) {a : Answer} {after : List ℕ}
      (x : Exported table lent a after) (z : a.number ≡ 0) where
    sheet_is : take a.count after ≡ text table
    sheet_is = let f = front_filled (text table) lent x z in ap (λ (n : ℕ). take n after) f.2 ∙ f.1

    imported_back : (lent' : List ℕ) → length table ≤ length lent'
        → Imported (take a.count after) lent' (success 0 0 (lines (take a.count after))) (table ++ drop (length table) lent')
    imported_back lent' h =
        let r = again (front_filled (text table) lent x z).0 in
        subst (λ (s : List ℕ). Imported s lent' (success 0 0 (lines s)) (table ++ drop (length table) lent')) (sym sheet_is)
        (subst (λ (t : List ℕ). Imported (text table) lent' (success 0 0 (lines (text table))) (t ++ drop (length t) lent')) r.1
        (P.Filled.given r.0 (rw r.1 h)))

    exported_back : (lent' : List ℕ) {b : Answer} {after' : List ℕ} → Imported (take a.count after) lent' b after' → b.number ≡ 0
        → (lent'' : List ℕ) → a.count ≤ length lent''
        → Exported (take (length table) after') lent'' (success 0 0 a.count) (take a.count after ++ drop a.count lent'')
    exported_back lent' {b} {after'} y w lent'' h =
        let f = front_filled (text table) lent x z in
        let r = again f.0 in
        let same : made (take a.count after) ≡ table = ap made sheet_is ∙ r.1 in
        let g = front_filled (made (take a.count after)) lent' y w in
        let back : take (length table) after' ≡ table = subst (λ (t : List ℕ). take (length t) after' ≡ t) same g.1 in
        subst (λ (t : List ℕ). Exported t lent'' (success 0 0 a.count) (take a.count after ++ drop a.count lent'')) (sym back)
        (subst (λ (s : List ℕ). Exported table lent'' (success 0 0 a.count) (s ++ drop a.count lent'')) (sym sheet_is)
        (subst (λ (n : ℕ). Exported table lent'' (success 0 0 n) (text table ++ drop n lent'')) (sym f.2)
        (P.Filled.given f.0 (subst (λ (n : ℕ). n ≤ length lent'') f.2 h))))

-- ---- devices

module _ (catalogue : List ℕ) (b : Bytes catalogue) (lent : List ℕ) {a : Answer} {after : List ℕ} (x : ExportedDevices catalogue lent a after) (z : a.number ≡ 0) where
  -- Importing what an export wrote gives the catalogue again.
  pub exported_imported : (lent' : List ℕ) → length catalogue ≤ length lent'
      → ImportedDevices (take a.count after) lent' (success 0 0 (length (parts_in (take a.count after)))) (catalogue ++ drop (length catalogue) lent')
  exported_imported =
      imported_back (λ c. parts_fault (parts_of c)) (λ c. devices_text (parts_of c)) devices_refused (λ t. length (parts_in t)) (λ t. catalogue_of (parts_in t)) catalogue
      (devices_round catalogue b) lent x z

  -- Exporting what was imported from it gives the text again.
  pub imported_exported : (lent' : List ℕ) {c : Answer} {after' : List ℕ} → ImportedDevices (take a.count after) lent' c after' → c.number ≡ 0
      → (lent'' : List ℕ) → a.count ≤ length lent''
      → ExportedDevices (take (length catalogue) after') lent'' (success 0 0 a.count) (take a.count after ++ drop a.count lent'')
  imported_exported =
      exported_back (λ c. parts_fault (parts_of c)) (λ c. devices_text (parts_of c)) devices_refused (λ t. length (parts_in t)) (λ t. catalogue_of (parts_in t)) catalogue
      (devices_round catalogue b) lent x z

-- ---- jobs

module _ (records : List ℕ) (b : Bytes records) (lent : List ℕ) {a : Answer} {after : List ℕ} (x : ExportedJobs records lent a after) (z : a.number ≡ 0) where
  pub exported_jobs_imported : (lent' : List ℕ) → length records ≤ length lent'
      → ImportedJobs (take a.count after) lent' (success 0 0 (length (jobs_in (take a.count after)))) (records ++ drop (length records) lent')
  exported_jobs_imported =
      imported_back (λ r. records_fault (pieces 7 r)) (λ r. jobs_text (jobs_of (pieces 7 r))) jobs_refused (λ t. length (jobs_in t)) (λ t. records_of (jobs_in t)) records
      (jobs_round records b) lent x z

  pub imported_jobs_exported : (lent' : List ℕ) {c : Answer} {after' : List ℕ} → ImportedJobs (take a.count after) lent' c after' → c.number ≡ 0
      → (lent'' : List ℕ) → a.count ≤ length lent''
      → ExportedJobs (take (length records) after') lent'' (success 0 0 a.count) (take a.count after ++ drop a.count lent'')
  imported_jobs_exported =
      exported_back (λ r. records_fault (pieces 7 r)) (λ r. jobs_text (jobs_of (pieces 7 r))) jobs_refused (λ t. length (jobs_in t)) (λ t. records_of (jobs_in t)) records
      (jobs_round records b) lent x z
