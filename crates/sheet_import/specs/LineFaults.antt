-- The place of a refusal of a sheet (rule 129): the first line at fault; where no line is, the line of the part, or of the job, that the table is refused for.
-- proofs/Only: there is one outcome for every text, and its number is the one that the import refuses with.
use Rattle.std.specs.Prelude.{◌≡◌, Bool, not, Result, Ok, Err, List, [], ℕ, ◌≤◌, ◌<◌, length, get_or, eqb}
use Rattle.catalogue.specs.Faults.{First, PartTold, OrderFaultOf}
use Rattle.text.specs.Grammar.{lines_of}
use Rattle.sheet.specs.declared.SheetKind.{SheetKind}
use Rattle.sheet.specs.declared.SheetKind.TheVariants.{Devices, Jobs}
use Rattle.sheet.specs.Sheets.{line_fault, lines_fault, parts_in, jobs_in}
use Rattle.base.specs.Reasons.{number_of}
use Rattle.sheet_import.specs.declared.LineFault.{LineFault}

-- What is told: the number of what refuses a sheet, 0 for none, and the line.
pub record LineTold : Type 0 where
  pub number : ℕ
  pub line : ℕ

abbrev pub line_fault_at : ℕ → ℕ → LineTold
line_fault_at n k = record { number = n; line = k }

-- The same as the code has it.
abbrev pub told : Result (Unit {0}) LineFault → LineTold
told (Ok u) = line_fault_at 0 0
told (Err f) = line_fault_at (number_of f.reason) f.line

-- Line k is at fault by itself (27, 28 or 29).
abbrev pub faulty_at : SheetKind → List (List ℕ) → ℕ → Bool
faulty_at r ls k = not (eqb (line_fault r (get_or ls k [])) 0)

-- `Table` says what is told where no line is at fault by itself.
pub data SheetFault (r : SheetKind) (text : List ℕ) (Table : LineTold → Type 0) : LineTold → Type 0 where
  line : {k : ℕ} → First (length (lines_of text)) (faulty_at r (lines_of text)) k → k < length (lines_of text)
      → SheetFault r text Table (line_fault_at (line_fault r (get_or (lines_of text) k [])) k)
  table : {f : LineTold} → lines_fault r (lines_of text) ≡ 0 → Table f → SheetFault r text Table f

-- ---- `devices_fault`: a line is a part of the catalogue, and is refused as that is (21, 22)

pub data DevicesTable (text : List ℕ) : LineTold → Type 0 where
  parts : {f : PartTold} → OrderFaultOf (parts_in text) [] f → DevicesTable text (line_fault_at f.number f.part)

abbrev pub DevicesFault : List ℕ → LineTold → Type 0
DevicesFault text = SheetFault Devices text (DevicesTable text)

-- ---- `jobs_fault`: the seventeenth line is a job too many (12)

pub data JobsTable (text : List ℕ) : LineTold → Type 0 where
  many : 16 < length (jobs_in text) → JobsTable text (line_fault_at 12 16)
  few : length (jobs_in text) ≤ 16 → JobsTable text (line_fault_at 0 0)

abbrev pub JobsFault : List ℕ → LineTold → Type 0
JobsFault text = SheetFault Jobs text (JobsTable text)
