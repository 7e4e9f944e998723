-- The rows of a text as the code puts them, by what its lines hold. Nobody need believe these: no promise speaks of them.
use Rattle.std.specs.Prelude.{List, ℕ}
use Rattle.tables.specs.Records.{job_bytes}
use Rattle.sheet.specs.declared.SheetKind.{SheetKind}
use Rattle.sheet.specs.declared.SheetKind.TheVariants.{Devices, Jobs}
use Rattle.sheet.specs.Sheets.{part_bytes}
use Rattle.sheet_import.specs.inside.Reading.{part_raw, job_raw, Sound, Formed}

abbrev pub row_bytes : SheetKind → List ℕ → List ℕ
row_bytes Devices l = part_bytes (part_raw l)
row_bytes Jobs l = job_bytes (job_raw l)

abbrev pub row_size : SheetKind → ℕ
row_size Devices = 15
row_size Jobs = 7

-- A line that can be put.
abbrev pub Ready : SheetKind → List ℕ → Type 0
Ready Devices l = Sound Devices l × Formed l
Ready Jobs l = Sound Jobs l
