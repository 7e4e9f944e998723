-- What the code reads of a text, two quotes between quotes left as they stand, and what it knows on the way. Nobody need believe these: no promise speaks of
-- them.
use Rattle.std.specs.Prelude.{◌≡◌, true, false, List, [], map, ℕ, ◌+◌, ◌<◌, length, get_or}
use Rattle.std.proofs.Math.Option
use Rattle.base.specs.Lists.{padded}
use Rattle.tables.specs.declared.JobRecord.{JobRecord}
use Rattle.catalogue.specs.Parts.{space, well_formed, Part}
use Rattle.text.specs.Grammar.{lines_of, unread}
use Rattle.text.specs.Numerals.{is_number}
use Rattle.text.specs.inside.Cursors.{raw_of, field_at}
use Rattle.sheet.specs.declared.SheetKind.{SheetKind}
use Rattle.sheet.specs.Sheets.{columns_of, part_in, job_in}

abbrev pub raw_in : List ℕ → List (List ℕ)
raw_in l = Option.get_or (raw_of l) []

abbrev pub part_raw : List ℕ → Part
part_raw l = part_in (raw_in l)

abbrev pub job_raw : List ℕ → JobRecord
job_raw l = job_in (raw_in l)

abbrev pub devices_raw : List (List ℕ) → List Part
devices_raw ls = map part_raw ls

abbrev pub jobs_raw : List (List ℕ) → List JobRecord
jobs_raw ls = map job_raw ls

abbrev pub line_at : List ℕ → ℕ → List ℕ
line_at text k = get_or (lines_of text) k []

-- A line without fault: it is read, and its numbers are numbers.
pub record Sound (r : SheetKind) (l : List ℕ) : Type 0 where
  pub reads : unread (raw_of l) ≡ false
  pub numbers : (k : ℕ) → k < 4 → is_number (get_or (columns_of r).most k 0) (field_at (raw_of l) ((columns_of r).texts + k)) ≡ true

abbrev pub Formed : List ℕ → Type 0
Formed l = well_formed (padded 8 space (field_at (raw_of l) 0)) ≡ true

-- Every line of a text is so.
abbrev pub EachLine : (List ℕ → Type 0) → List ℕ → Type 0
EachLine P text = (k : ℕ) → k < length (lines_of text) → P (line_at text k)
