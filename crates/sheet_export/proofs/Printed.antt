-- SheetKind printed one after the other: the text of a table, and how long its lines can be.
use mathlib.Core.Path.{◌≡◌, refl, sym, ap, ◌∙◌}
use mathlib.Core.List.{List, [], ◌∷◌, ◌++◌, map, append_assoc}
use Prim.Native.Nat.{ℕ, ◌+◌, ◌≤◌}
use native.Mathlib.Omega.{arith}
use lib.ListN.{length, take, drop, length-append, length-take}
use lib.Seq.{get_or-drop}
use Rattle.base.specs.Bytes.{byte_at, in_row}
use Rattle.base.proofs.Cases.{cond_cases}
use Rattle.tables.specs.declared.DeviceRecord.{DeviceRecord}
use Rattle.tables.specs.Records.{first_at, job_at}
use Rattle.catalogue.specs.Parts.{sign, front, part_of}
use Rattle.catalogue.proofs.Scanning.{front_fits}
use Rattle.text.specs.Grammar.{cr, lf, quote, comma, text_of}
use Rattle.text.specs.Numerals.{numbers_text}
use Rattle.text.specs.inside.Putting.{line_text}
use Rattle.text.proofs.Puts.{four_few}
use Rattle.sheet.specs.Sheets.{job_line, jobs_of, jobs_text}
use Rattle.sheet_export.specs.inside.Printing.{ended, part_text, record_text}

-- The text of rows is their lines, ended, in a row.
pub text_rows : {A : Type 0} (line : A → List ℕ) (xs : List A) → text_of (map line xs) ≡ in_row (map (λ x. ended (line x)) xs)
text_rows line [] = refl
text_rows line (x ∷ xs) =
    ap (λ (l : List ℕ). line x ++ cr ∷ lf ∷ l) (text_rows line xs) ∙ sym (append_assoc (line x) (cr ∷ lf ∷ []) (in_row (map (λ x. ended (line x)) xs)))

pub records_text : (rs : List (List ℕ)) → jobs_text (jobs_of rs) ≡ in_row (map record_text rs)
records_text rs = ap text_of (map_map rs) ∙ text_rows (λ (r : List ℕ). job_line (job_at r 0)) rs
  where
    map_map : (qs : List (List ℕ)) → map job_line (jobs_of qs) ≡ map (λ (r : List ℕ). job_line (job_at r 0)) qs
    map_map [] = refl
    map_map (q ∷ qs) = ap {B = List (List ℕ)} (λ x. job_line (job_at q 0) ∷ x) (map_map qs)

-- ---- a part's line

-- As many bytes as there are signs at the front are these.
pub take_front : (n : List ℕ) (k : ℕ) → k ≡ length (front n) → take k n ≡ front n
take_front n k e = rw e (go n)
  where
    go : (l : List ℕ) → take (length (front l)) l ≡ front l
    go [] = refl
    go (b ∷ l) = cond_cases (λ (f : List ℕ). take (length f) (b ∷ l) ≡ f) (sign b) (λ h. ap {B = List ℕ} (λ x. b ∷ x) (go l)) (λ h. refl)

pub quoted_long : (n : List ℕ) → length (quote ∷ front n ++ quote ∷ comma ∷ []) ≡ length (front n) + 3
quoted_long n = omega (arith, length-append (front n) (quote ∷ comma ∷ []))

-- A device record behind the part number.
device_behind : (s : List ℕ) → first_at (drop 8 s) 0 ≡ first_at s 8
device_behind s =
    let at : (i : ℕ) → byte_at (drop 8 s) i ≡ byte_at s (8 + i) = λ i. get_or-drop 8 s i 0 in
    let a = at 0 in
    let b = at 1 in
    let c = at 2 in
    let d = at 3 in
    let e = at 4 in
    let f = at 5 in
    let g = at 6 in
    cc

module _ (s : List ℕ) where
  pub part_text_lem : (quote ∷ front (take 8 s) ++ quote ∷ comma ∷ [])
      ++ line_text ((first_at s 8).wake ∷ (first_at s 8).pw ∷ (first_at s 8).ps ∷ (first_at s 8).pwake ∷ []) ≡ part_text (part_of s)
  part_text_lem =
      let ns = (first_at s 8).wake ∷ (first_at s 8).pw ∷ (first_at s 8).ps ∷ (first_at s 8).pwake ∷ [] in
      let f = front (take 8 s) in
      ap (λ (l : List ℕ). quote ∷ l)
      (append_assoc f (quote ∷ comma ∷ []) (line_text ns) ∙ sym (append_assoc f (quote ∷ comma ∷ numbers_text ns) (cr ∷ lf ∷ [])))
      ∙ ap (λ (d : DeviceRecord). ended (quote ∷ f ++ quote ∷ comma ∷ numbers_text (d.wake ∷ d.pw ∷ d.ps ∷ d.pwake ∷ []))) (sym (device_behind s))

  pub front_eight : length s ≡ 15 → length (front (take 8 s)) ≤ 8
  front_eight h = omega (arith, front_fits (take 8 s), length-take 8 s)

  pub part_text_few : length s ≡ 15 → length (part_text (part_of s)) ≤ 36
  part_text_few h =
      let d = first_at s 8 in
      omega (arith, ap length part_text_lem, length-append (quote ∷ front (take 8 s) ++ quote ∷ comma ∷ []) (line_text (d.wake ∷ d.pw ∷ d.ps ∷ d.pwake ∷ [])), quoted_long (take 8 s), front_eight h, four_few d.wake d.pw d.ps d.pwake)

  pub record_text_few : length (record_text s) ≤ 25
  record_text_few = let j = job_at s 0 in four_few j.release j.deadline j.run j.set
