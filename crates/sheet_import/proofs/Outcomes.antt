-- From what the code works out to the outcome that is promised.
use mathlib.Core.Path.{◌≡◌, sym, ap, ◌∙◌}
use mathlib.Core.Bool.{false}
use mathlib.Core.List.{List, [], ◌∷◌, map}
use Prim.Native.Nat.{ℕ}
use lib.ListN.{length, length-map}
use Rattle.base.specs.Refusals.{◌⇒◌}
use Rattle.base.proofs.Clear.{clear}
use Rattle.base.proofs.Records.{or_else_zero}
use Rattle.base.specs.Bytes.{in_row}
use Rattle.tables.specs.Records.{job_bytes}
use Rattle.catalogue.specs.Parts.{parts_of, numbers, unfit, repeated}
use Rattle.text.specs.Grammar.{lines_of}
use Rattle.sheet.specs.declared.SheetKind.TheVariants.{Devices}
use Rattle.sheet.specs.Sheets.{lines_fault, parts_in, jobs_in, parts_fault, devices_refused, jobs_refused, part_bytes, catalogue_of, records_of}
use Rattle.sheet.proofs.Laid.{row_map, parts_back, fit_sized}
use Rattle.sheet_import.specs.inside.Reading.{part_raw, job_raw, devices_raw}
use Rattle.sheet_import.proofs.Raw.{devices_raw_refused, devices_raw_in, jobs_raw_in}

-- ---- devices

module _ (text : List ℕ) where
  abbrev lines : List (List ℕ)
  lines = lines_of text

  -- Where nothing is refused 21 passes of the rows.
  pub devices_fit : 0 ≡ devices_refused text → unfit (devices_raw lines) ≡ false
  devices_fit e =
      let p = or_else_zero (lines_fault Devices lines) (parts_fault (devices_raw lines)) (e ∙ devices_raw_refused text) in
      (clear ((unfit (devices_raw lines) ⇒ 21) ∷ (repeated (numbers (devices_raw lines)) ⇒ 22) ∷ []) (tt, (tt, tt)) p.1).0

  -- The parts of the rows' bytes are the rows.
  pub rows_parts : unfit (devices_raw lines) ≡ false → parts_of (in_row (map (λ l. part_bytes (part_raw l)) lines)) ≡ devices_raw lines
  rows_parts u = ap parts_of (row_map part_raw part_bytes lines) ∙ parts_back (devices_raw lines) (fit_sized (devices_raw lines) u)

  pub devices_bytes : 0 ≡ devices_refused text → in_row (map (λ l. part_bytes (part_raw l)) lines) ≡ catalogue_of (parts_in text)
  devices_bytes e = row_map part_raw part_bytes lines ∙ ap catalogue_of (sym (devices_raw_in text (sym e)))

  pub devices_count : length lines ≡ length (parts_in text)
  devices_count = sym (length-map lines _)

  -- ---- jobs

  pub jobs_bytes : 0 ≡ jobs_refused text → in_row (map (λ l. job_bytes (job_raw l)) lines) ≡ records_of (jobs_in text)
  jobs_bytes e = row_map job_raw job_bytes lines ∙ ap records_of (sym (jobs_raw_in text (sym e)))

  pub jobs_count : length lines ≡ length (jobs_in text)
  jobs_count = sym (length-map lines _)
