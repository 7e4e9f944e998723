-- Importing what was exported gives the table again, to the byte, for whatever an export accepts; and nothing that was imported is refused on export.
use mathlib.Core.Path.{◌≡◌, refl, sym, ap, ◌∙◌}
use mathlib.Core.Bool.{true, false}
use mathlib.Core.List.{List, [], ◌∷◌, map}
use mathlib.Core.Option.{Option, some, get_or}
use Prim.Native.Nat.{ℕ, ◌≤◌}
use native.Mathlib.Omega.{arith}
use lib.ListN.{length, length-map}
use lib.Dec.{eqb, ltb}
use borrow.Author.Tests.{le-ltb}
use Rattle.base.specs.Lists.{padded, all}
use Rattle.base.specs.Refusals.{◌⇒◌, first_that}
use Rattle.base.proofs.Every.{Every, every_append}
use Rattle.base.proofs.Clear.{clear}
use Rattle.base.proofs.Records.{or_else_zero}
use Rattle.base.specs.Bytes.{pieces}
use Rattle.tables.specs.declared.DeviceRecord.{DeviceRecord}
use Rattle.tables.specs.declared.JobRecord.{JobRecord}
use Rattle.tables.specs.Records.{first_at, first_bytes, job_bytes}
use Rattle.catalogue.specs.Parts.{space, front, repeated, Part, parts_of, numbers, unfit}
use Rattle.catalogue.proofs.PartNumbers.{all_front}
use Rattle.text.specs.Grammar.{cr, comma, quote, then, lines_of, text_of, fields_of}
use Rattle.text.specs.Numerals.{value_of, digits_of, numbers_text}
use Rattle.text.proofs.Decimal.{value_digits, is_number_lem}
use Rattle.sheet.proofs.Signs.{signs_ordinary}
use Rattle.text.proofs.Split.{Unbroken, lines_text, ordinary_unbroken, quoted_more, Small, numbers_fields, numbers_unbroken}
use Rattle.sheet.specs.declared.SheetKind.{SheetKind}
use Rattle.sheet.specs.declared.SheetKind.TheVariants.{Devices, Jobs}
use Rattle.sheet.specs.Sheets.{are_numbers, fields_in, line_fault, lines_fault, part_in, job_in, parts_in, jobs_in, parts_fault, records_fault, devices_refused, jobs_refused, part_line, job_line, devices_text, jobs_text, catalogue_of, records_of}
use Rattle.sheet.proofs.LineFaults.{passes}
use Rattle.sheet.proofs.Laid.{Sized, row_long, pieces_back, parts_back, fit_sized}

-- Numbers as their bytes hold them.
abbrev pub FitsDevice : DeviceRecord → Type 0
FitsDevice d = (d.wake ≤ 255) × (d.pw ≤ 65535) × (d.ps ≤ 65535) × (d.pwake ≤ 65535)

abbrev pub FitsJob : JobRecord → Type 0
FitsJob j = (j.release ≤ 65535) × (j.deadline ≤ 65535) × (j.run ≤ 65535) × (j.set ≤ 255)

-- A part as a catalogue holds it: signs and then spaces, and a record whose bytes are those of its numbers.
pub record Kept (p : Part) : Type 0 where
  pub spaced : p.number ≡ padded 8 space (front p.number)
  pub fits : FitsDevice (first_at p.device 0)
  pub back : first_bytes (first_at p.device 0) ≡ p.device

four : (m₁ m₂ m₃ m₄ a b c d : ℕ) → a ≤ m₁ → b ≤ m₂ → c ≤ m₃ → d ≤ m₄ → Small a → Small b → Small c → Small d
    → are_numbers (m₁ ∷ m₂ ∷ m₃ ∷ m₄ ∷ []) (map digits_of (a ∷ b ∷ c ∷ d ∷ [])) ≡ true
four m₁ m₂ m₃ m₄ a b c d h₁ h₂ h₃ h₄ k₁ k₂ k₃ k₄ = rw (is_number_lem m₁ a h₁ k₁, is_number_lem m₂ b h₂ k₂, is_number_lem m₃ c h₃ k₃, is_number_lem m₄ d h₄ k₄)

-- ---- one line

module _ (p : Part) (k : Kept p) where
  abbrev d : DeviceRecord
  d = first_at p.device 0

  abbrev h : FitsDevice d
  h = k.fits

  part_fields : fields_of (part_line p) ≡ some (front p.number ∷ map digits_of (d.wake ∷ d.pw ∷ d.ps ∷ d.pwake ∷ []))
  part_fields =
      quoted_more (quote ∷ []) (front p.number) (numbers_text (d.wake ∷ d.pw ∷ d.ps ∷ d.pwake ∷ [])) (signs_ordinary (front p.number) (all_front p.number))
      ∙ ap (then (front p.number)) (numbers_fields (quote ∷ []) d.wake (d.pw ∷ d.ps ∷ d.pwake ∷ []) (omega (arith, h.0)) (omega (arith, h.1), (omega (arith, h.2), (omega (arith, h.3), tt))))

  part_passes : line_fault Devices (part_line p) ≡ 0
  part_passes =
      passes Devices (part_line p) _ part_fields refl
      (four 255 65535 65535 65535 d.wake d.pw d.ps d.pwake h.0 h.1 h.2 h.3 (omega (arith, h.0)) (omega (arith, h.1)) (omega (arith, h.2)) (omega (arith, h.3)))

  part_unbroken : Unbroken (part_line p)
  part_unbroken = (
    refl,
    every_append (λ b. eqb b cr ≡ false) (front p.number) (quote ∷ comma ∷ numbers_text (d.wake ∷ d.pw ∷ d.ps ∷ d.pwake ∷ []))
        (ordinary_unbroken (front p.number) (signs_ordinary (front p.number) (all_front p.number)))
        (refl, (refl, numbers_unbroken d.wake (d.pw ∷ d.ps ∷ d.pwake ∷ []) (omega (arith, h.0)) (omega (arith, h.1), (omega (arith, h.2), (omega (arith, h.3), tt))))),
  )

  part_again : part_in (fields_in (part_line p)) ≡ p
  part_again =
      made part_fields (sym k.spaced) (value_digits 4 d.wake (omega (arith, h.0))) (value_digits 4 d.pw (omega (arith, h.1)))
      (value_digits 4 d.ps (omega (arith, h.2))) (value_digits 4 d.pwake (omega (arith, h.3)))
    where
      made : {o : Option (List (List ℕ))} {f t pw ps p0 : List ℕ} → o ≡ some (f ∷ t ∷ pw ∷ ps ∷ p0 ∷ []) → padded 8 space f ≡ p.number → value_of t ≡ d.wake
          → value_of pw ≡ d.pw → value_of ps ≡ d.ps → value_of p0 ≡ d.pwake → part_in (get_or o []) ≡ p
      made e n a b c g = rw (e, n, a, b, c, g, k.back)

module _ (j : JobRecord) (h : FitsJob j) where
  job_fields : fields_of (job_line j) ≡ some (map digits_of (j.release ∷ j.deadline ∷ j.run ∷ j.set ∷ []))
  job_fields = numbers_fields (quote ∷ []) j.release (j.deadline ∷ j.run ∷ j.set ∷ []) (omega arith) (omega arith, (omega arith, (omega arith, tt)))

  job_passes : line_fault Jobs (job_line j) ≡ 0
  job_passes =
      passes Jobs (job_line j) _ job_fields refl
      (four 65535 65535 65535 255 j.release j.deadline j.run j.set h.0 h.1 h.2 h.3 (omega arith) (omega arith) (omega arith) (omega arith))

  job_unbroken : Unbroken (job_line j)
  job_unbroken = numbers_unbroken j.release (j.deadline ∷ j.run ∷ j.set ∷ []) (omega arith) (omega arith, (omega arith, (omega arith, tt)))

  job_again : job_in (fields_in (job_line j)) ≡ j
  job_again =
      made job_fields (value_digits 4 j.release (omega arith)) (value_digits 4 j.deadline (omega arith)) (value_digits 4 j.run (omega arith)) (value_digits 4 j.set (omega arith))
    where
      made : {o : Option (List (List ℕ))} {a d c s : List ℕ} → o ≡ some (a ∷ d ∷ c ∷ s ∷ []) → value_of a ≡ j.release → value_of d ≡ j.deadline → value_of c ≡ j.run
          → value_of s ≡ j.set → job_in (get_or o []) ≡ j
      made e x y z w = rw (e, x, y, z, w)

-- ---- all lines

module _ {A : Type 0} (r : SheetKind) (line : A → List ℕ) (read : List (List ℕ) → A) where
  -- What one row of a table needs: its line has no break, passes, and is read as the row.
  abbrev pub Comes : A → Type 0
  Comes x = Unbroken (line x) × (line_fault r (line x) ≡ 0) × (read (fields_in (line x)) ≡ x)

  all_unbroken : (table : List A) → Every Comes table → Every Unbroken (map line table)
  all_unbroken [] h = tt
  all_unbroken (x ∷ table) h = (h.0.0, all_unbroken table h.1)

  all_pass : (table : List A) → Every Comes table → lines_fault r (map line table) ≡ 0
  all_pass [] h = refl
  all_pass (x ∷ table) h = rw h.0.1 (all_pass table h.1)

  all_again : (table : List A) → Every Comes table → map (λ l. read (fields_in l)) (map line table) ≡ table
  all_again [] h = refl
  all_again (x ∷ table) h = let e = h.0.2 in let f = all_again table h.1 in cc

  pub table_passes : (table : List A) → Every Comes table → lines_fault r (lines_of (text_of (map line table))) ≡ 0
  table_passes table h = rw (lines_text (map line table) (all_unbroken table h)) (all_pass table h)

  pub table_again : (table : List A) → Every Comes table → map (λ l. read (fields_in l)) (lines_of (text_of (map line table))) ≡ table
  table_again table h = rw (lines_text (map line table) (all_unbroken table h)) (all_again table h)

-- ---- tables

pub devices_read : (ps : List Part) → Every Kept ps → (lines_fault Devices (lines_of (devices_text ps)) ≡ 0) × (parts_in (devices_text ps) ≡ ps)
devices_read ps h =
    let c = come ps h in
    (table_passes Devices part_line part_in ps c, table_again Devices part_line part_in ps c)
  where
    come : (qs : List Part) → Every Kept qs → Every (Comes Devices part_line part_in) qs
    come [] h = tt
    come (q ∷ qs) h = ((part_unbroken q h.0, part_passes q h.0, part_again q h.0), come qs h.1)

pub jobs_read : (js : List JobRecord) → Every FitsJob js → (lines_fault Jobs (lines_of (jobs_text js)) ≡ 0) × (jobs_in (jobs_text js) ≡ js)
jobs_read js h =
    let c = come js h in
    (table_passes Jobs job_line job_in js c, table_again Jobs job_line job_in js c)
  where
    come : (qs : List JobRecord) → Every FitsJob qs → Every (Comes Jobs job_line job_in) qs
    come [] h = tt
    come (q ∷ qs) h = ((job_unbroken q h.0, job_passes q h.0, job_again q h.0), come qs h.1)

-- What an export accepts is not refused on import, and comes again.
pub devices_again : (ps : List Part) → Every Kept ps → parts_fault ps ≡ 0 → (devices_refused (devices_text ps) ≡ 0) × (parts_in (devices_text ps) ≡ ps)
devices_again ps h e = let r = devices_read ps h in (rw (r.0, r.1) e, r.1)

pub jobs_again : (js : List JobRecord) → Every FitsJob js → length js ≤ 16 → (jobs_refused (jobs_text js) ≡ 0) × (jobs_in (jobs_text js) ≡ js)
jobs_again js h few = let r = jobs_read js h in (rw (r.0, r.1, le-ltb 16 (length js) few), r.1)

-- What was imported is not refused on export.
pub imported_exports : (text : List ℕ) → devices_refused text ≡ 0 → parts_fault (parts_of (catalogue_of (parts_in text))) ≡ 0
imported_exports text e =
    let p = (or_else_zero (lines_fault Devices (lines_of text)) (parts_fault (parts_in text)) (sym e)).1 in
    let c = clear ((unfit (parts_in text) ⇒ 21) ∷ (repeated (numbers (parts_in text)) ⇒ 22) ∷ []) (tt, (tt, tt)) p in
    ap parts_fault (parts_back (parts_in text) (fit_sized (parts_in text) c.0)) ∙ sym p

pub imported_jobs_export : (text : List ℕ) → jobs_refused text ≡ 0 → records_fault (pieces 7 (records_of (jobs_in text))) ≡ 0
imported_jobs_export text e =
    let js = jobs_in text in
    let p = (or_else_zero (lines_fault Jobs (lines_of text)) (first_that ((ltb 16 (length js) ⇒ 12) ∷ [])) (sym e)).1 in
    let c = clear ((ltb 16 (length js) ⇒ 12) ∷ []) (tt, tt) p in
    let back = pieces_back 7 (map job_bytes js) (sevens js) (omega (arith, row_long 7 (map job_bytes js) (sevens js))) in
    rw (back, length-map js job_bytes, c.0, all_seven js)
  where
    sevens : (qs : List JobRecord) → Every (Sized 7) (map job_bytes qs)
    sevens [] = tt
    sevens (q ∷ qs) = (refl, sevens qs)

    all_seven : (qs : List JobRecord) → all (λ (r : List ℕ). eqb (length r) 7) (map job_bytes qs) ≡ true
    all_seven [] = refl
    all_seven (q ∷ qs) = all_seven qs
