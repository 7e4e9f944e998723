-- What the walks over the lines of a sheet tell. Nobody need believe these: the promises are said by the first place (specs/LineFaults).
use Rattle.std.specs.Prelude.{◌≡◌, false, cond, Option, Some, None, Result, Ok, Err, List, [], ◌∷◌, ℕ, suc, ◌<◌, length, eqb}
use Rattle.base.specs.declared.reasons.Reason.{Reason}
use Rattle.sheet_import.specs.declared.LineFault.{LineFault}
use Rattle.catalogue.specs.Parts.{unfit}
use Rattle.catalogue.specs.Faults.{First, unfit_at}
use Rattle.text.specs.Grammar.{lines_of}
use Rattle.sheet.specs.declared.SheetKind.{SheetKind}
use Rattle.sheet.specs.declared.SheetKind.TheVariants.{Devices}
use Rattle.sheet.specs.Sheets.{line_fault, lines_fault}
use Rattle.sheet_import.specs.LineFaults.{LineTold, line_fault_at}
use Rattle.sheet_import.specs.inside.Reading.{devices_raw}

-- The first line at fault of those from line k on; 0 and 0 where there is none.
unfoldable pub first_line : SheetKind → ℕ → List (List ℕ) → LineTold
first_line r k [] = line_fault_at 0 0
first_line r k (l ∷ ls) = cond (eqb (line_fault r l) 0) (first_line r (suc k) ls) (line_fault_at (line_fault r l) k)

-- What a line that is found tells, for this reason.
abbrev pub fault_at : Reason → Option ℕ → Result (Unit {0}) LineFault
fault_at e None = Ok _
fault_at e (Some k) = Err (record { reason = e; line = k })

-- A sheet of devices before its part numbers are compared: 27, 28 or 29 by its lines, and then 21.
pub data DevicesJudged (text : List ℕ) : LineTold → Type 0 where
  line : (lines_fault Devices (lines_of text) ≡ 0 → ⊥) → DevicesJudged text (first_line Devices 0 (lines_of text))
  bad : {k : ℕ} → lines_fault Devices (lines_of text) ≡ 0 → First (length (lines_of text)) (unfit_at (devices_raw (lines_of text))) k → k < length (lines_of text)
      → DevicesJudged text (line_fault_at 21 k)
  fine : lines_fault Devices (lines_of text) ≡ 0 → unfit (devices_raw (lines_of text)) ≡ false → DevicesJudged text (line_fault_at 0 0)
