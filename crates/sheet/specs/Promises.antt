-- What the five operations promise: for each one relation between its inputs and its complete outcome, the answer and the lent bytes after it.
-- proofs/Only: each relation has one outcome for every input.
use Rattle.std.specs.Prelude.{◌≡◌, List, ◌++◌, map, ℕ, ◌≤◌, ◌<◌, pos, length, drop, replicate}
use Rattle.planner.specs.declared.Answer.{Answer}
use Rattle.planner.specs.Promises.{success, refusal, Judged, Margined}
use Rattle.base.specs.Bytes.{pieces}
use Rattle.catalogue.specs.Parts.{parts_of}
use Rattle.sheet.specs.Sheets.{parts_in, jobs_in, parts_fault, records_fault, devices_refused, jobs_refused, catalogue_of, records_of, devices_text, jobs_text, jobs_of, plan_text}

-- Refused by a number, which leaves the lent bytes as they were; or 15 where they have no room; or the bytes made stand at their front, with the horizon and
-- the count in the answer, and what is lent beyond stays as it was (rule 110).
pub data Filled (fault horizon count : ℕ) (made lent : List ℕ) : Answer → List ℕ → Type 0 where
  refused : (fault ≡ 0 → ⊥) → Filled fault horizon count made lent (refusal fault) lent
  short : fault ≡ 0 → length lent < length made → Filled fault horizon count made lent (refusal 15) lent
  given : fault ≡ 0 → length made ≤ length lent → Filled fault horizon count made lent (success horizon 0 count) (made ++ drop (length made) lent)

-- ---- from text: the count is that of the lines

abbrev pub ImportedDevices : List ℕ → List ℕ → Answer → List ℕ → Type 0
ImportedDevices text = Filled (devices_refused text) 0 (length (parts_in text)) (catalogue_of (parts_in text))

abbrev pub ImportedJobs : List ℕ → List ℕ → Answer → List ℕ → Type 0
ImportedJobs text = Filled (jobs_refused text) 0 (length (jobs_in text)) (records_of (jobs_in text))

-- ---- to text: the count is that of the bytes

abbrev pub ExportedDevices : List ℕ → List ℕ → Answer → List ℕ → Type 0
ExportedDevices catalogue =
    let ps = parts_of catalogue in
    Filled (parts_fault ps) 0 (length (devices_text ps)) (devices_text ps)

abbrev pub ExportedJobs : List ℕ → List ℕ → Answer → List ℕ → Type 0
ExportedJobs records =
    let js = jobs_of (pieces 7 records) in
    Filled (records_fault (pieces 7 records)) 0 (length (jobs_text js)) (jobs_text js)

-- The plan: what the planner's verdict refuses is refused with its answer; else the margins that the planner gives into sixteen places, none of which is
-- below 0, are written (rule 111). What the planner states of the verdict and of the margins is cited, and not opened.
pub data ExportedPlan (file starts lent : List ℕ) : Answer → List ℕ → Type 0 where
  refused : {a : Answer} → Judged file starts a → (a.number ≡ 0 → ⊥) → ExportedPlan file starts lent a lent
  planned : {verdict found a : Answer} {after : List ℕ} (margins : List ℕ) → Judged file starts verdict → verdict.number ≡ 0
      → Margined file starts (replicate 16 (pos 0)) found (map pos margins)
      → Filled 0 verdict.horizon (length (plan_text starts margins)) (plan_text starts margins) lent a after → ExportedPlan file starts lent a after
