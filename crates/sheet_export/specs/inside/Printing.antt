-- A row's line with its CR LF, as the code puts it. Nobody need believe these: no promise speaks of them.
use Rattle.std.specs.Prelude.{List, [], ◌∷◌, ◌++◌, ℕ}
use Rattle.tables.specs.Records.{job_at}
use Rattle.catalogue.specs.Parts.{Part}
use Rattle.text.specs.Grammar.{cr, lf}
use Rattle.sheet.specs.Sheets.{part_line, job_line}

abbrev pub ended : List ℕ → List ℕ
ended l = l ++ cr ∷ lf ∷ []

abbrev pub part_text : Part → List ℕ
part_text p = ended (part_line p)

abbrev pub record_text : List ℕ → List ℕ
record_text r = ended (job_line (job_at r 0))
