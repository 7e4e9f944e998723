-- Sheets of devices and of jobs, each read as a table and written as text, with what refuses them (rules 104 to 109). A table of devices is the catalogue's
-- list of parts, and 21 and 22 are the catalogue's own.
use Rattle.std.specs.Prelude.{Bool, true, false, not, ◌&&◌, List, [], ◌∷◌, ◌++◌, map, ℕ, ◌+◌, length, get_or, drop, eqb, ltb}
use Rattle.std.proofs.Math.Option
use Rattle.std.proofs.Math.Option.{Option}
use Rattle.base.specs.Lists.{up_to, padded, all}
use Rattle.base.specs.Refusals.{Refusal, ◌⇒◌, first_that, or_else}
use Rattle.base.specs.Bytes.{in_row}
use Rattle.tables.specs.declared.JobRecord.{JobRecord}
use Rattle.tables.specs.Records.{averaged, first_at, first_bytes, job_at, job_bytes}
use Rattle.catalogue.specs.Parts.{space, front, Part, numbers, unfit, repeated}
use Rattle.text.specs.Grammar.{quote, comma, lines_of, text_of, fields_of, unread}
use Rattle.text.specs.Numerals.{value_of, is_number, numbers_text}
use Rattle.sheet.specs.declared.SheetKind.{SheetKind}
use Rattle.sheet.specs.declared.SheetKind.TheVariants.{Devices, Jobs}

-- ---- one line

-- What stands in a line: so many fields of text, then numbers, each of at most this (rules 104 and 105).
pub record Columns : Type 0 where
  pub texts : ℕ
  pub most : List ℕ

abbrev pub columns_of : SheetKind → Columns
columns_of Devices = record { texts = 1; most = 255 ∷ 65535 ∷ 65535 ∷ 65535 ∷ [] }
columns_of Jobs = record { texts = 0; most = 65535 ∷ 65535 ∷ 65535 ∷ 255 ∷ [] }

-- Each field is a number of at most its bound.
abbrev pub are_numbers : List ℕ → List (List ℕ) → Bool
are_numbers [] fs = true
are_numbers (m ∷ ms) [] = false
are_numbers (m ∷ ms) (f ∷ fs) = is_number m f && are_numbers ms fs

-- 27 a stray quote or an open one, 28 another number of fields, 29 a field that is no number or too large (rule 106).
abbrev pub line_table : SheetKind → Option (List (List ℕ)) → List Refusal
line_table r o = let fs = Option.get_or o [] in
    (unread o ⇒ 27)
    ∷ (not (eqb (length fs) ((columns_of r).texts + 4)) ⇒ 28)
    ∷ (not (are_numbers (columns_of r).most (drop (columns_of r).texts fs)) ⇒ 29)
    ∷ []

abbrev pub line_fault : SheetKind → List ℕ → ℕ
line_fault r l = first_that (line_table r (fields_of l))

-- The first line at fault decides.
abbrev pub lines_fault : SheetKind → List (List ℕ) → ℕ
lines_fault r [] = 0
lines_fault r (l ∷ ls) = or_else (line_fault r l) (lines_fault r ls)

-- ---- tables from text

-- The fields of a line that is read, and one of them.
abbrev pub fields_in : List ℕ → List (List ℕ)
fields_in l = Option.get_or (fields_of l) []

abbrev pub field_in : List (List ℕ) → ℕ → List ℕ
field_in fs i = get_or fs i []

-- A part: its number is the first field as it stands, padded to eight bytes (rule 107).
abbrev pub part_in : List (List ℕ) → Part
part_in fs = record {
  number = padded 8 space (field_in fs 0);
  device =
      first_bytes (averaged (value_of (field_in fs 1)) (value_of (field_in fs 2)) (value_of (field_in fs 3)) (value_of (field_in fs 4)));
}

abbrev pub job_in : List (List ℕ) → JobRecord
job_in fs = record { release = value_of (field_in fs 0); deadline = value_of (field_in fs 1); run = value_of (field_in fs 2); set = value_of (field_in fs 3) }

abbrev pub parts_in : List ℕ → List Part
parts_in text = map (λ l. part_in (fields_in l)) (lines_of text)

abbrev pub jobs_in : List ℕ → List JobRecord
jobs_in text = map (λ l. job_in (fields_in l)) (lines_of text)

-- ---- what refuses a table (rule 108)

abbrev pub parts_fault : List Part → ℕ
parts_fault ps = first_that ((unfit ps ⇒ 21) ∷ (repeated (numbers ps) ⇒ 22) ∷ [])

-- Job records are pieces of seven bytes; a last one that is cut short lacks a byte (1).
abbrev pub records_fault : List (List ℕ) → ℕ
records_fault rs = first_that ((ltb 16 (length rs) ⇒ 12) ∷ (not (all (λ (r : List ℕ). eqb (length r) 7) rs) ⇒ 1) ∷ [])

-- A text is refused by its first faulty line, and only then by its table.
abbrev pub devices_refused : List ℕ → ℕ
devices_refused text = or_else (lines_fault Devices (lines_of text)) (parts_fault (parts_in text))

abbrev pub jobs_refused : List ℕ → ℕ
jobs_refused text = or_else (lines_fault Jobs (lines_of text)) (first_that ((ltb 16 (length (jobs_in text)) ⇒ 12) ∷ []))

-- ---- tables as bytes

abbrev pub part_bytes : Part → List ℕ
part_bytes p = p.number ++ p.device

abbrev pub catalogue_of : List Part → List ℕ
catalogue_of ps = in_row (map part_bytes ps)

abbrev pub records_of : List JobRecord → List ℕ
records_of js = in_row (map job_bytes js)

-- ---- text from tables (rule 109)

-- A part number stands in quotes, without its padding.
abbrev pub part_line : Part → List ℕ
part_line p =
    let d = first_at p.device 0 in
    quote ∷ front p.number ++ quote ∷ comma ∷ numbers_text (d.wake ∷ d.pw ∷ d.ps ∷ d.pwake ∷ [])

abbrev pub job_line : JobRecord → List ℕ
job_line j = numbers_text (j.release ∷ j.deadline ∷ j.run ∷ j.set ∷ [])

abbrev pub devices_text : List Part → List ℕ
devices_text ps = text_of (map part_line ps)

abbrev pub jobs_text : List JobRecord → List ℕ
jobs_text js = text_of (map job_line js)

-- The jobs of records, seven bytes each.
abbrev pub jobs_of : List (List ℕ) → List JobRecord
jobs_of rs = map (λ (r : List ℕ). job_at r 0) rs

-- A plan has a line for each job: its number, its start and its margin.
abbrev pub plan_line : List ℕ → List ℕ → ℕ → List ℕ
plan_line starts margins j = numbers_text (j ∷ get_or starts j 0 ∷ get_or margins j 0 ∷ [])

abbrev pub plan_text : List ℕ → List ℕ → List ℕ
plan_text starts margins = text_of (up_to (plan_line starts margins) (length starts))
