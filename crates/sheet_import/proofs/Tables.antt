-- A table of rows that were read, as a whole: what refuses it, and its bytes.
use mathlib.Core.Path.{◌≡◌, refl, sym, ◌∙◌}
use mathlib.Core.Bool.{Bool, true, false, not, true≢false}
use mathlib.Core.List.{List, [], ◌∷◌}
use Prim.Native.Nat.{ℕ, zero, suc, ◌<◌, ◌≤◌}
use native.Mathlib.Omega.{arith}
use lib.ListN.{length, drop, get_or, length-map}
use lib.Seq.{get_or-drop}
use lib.Dec.{ltb}
use borrow.Author.Tests.{ltb-false, not-false}
use Rattle.base.specs.Lists.{padded, all}
use Rattle.base.proofs.Clear.{clear}
use Rattle.base.proofs.Records.{or_else_zero}
use Rattle.base.proofs.Cases.{both, neither}
use Rattle.catalogue.specs.Parts.{space, well_formed, malformed, Part, numbers, whole, unfit}
use Rattle.text.specs.Grammar.{lines_of}
use Rattle.text.specs.Numerals.{is_number}
use Rattle.text.specs.inside.Cursors.{raw_of, field_at}
use Rattle.sheet.specs.declared.SheetKind.{SheetKind}
use Rattle.sheet.specs.Sheets.{columns_of, are_numbers, line_table, line_fault, lines_fault}
use Rattle.sheet_import.specs.inside.Reading.{raw_in, part_raw, devices_raw, Sound, Formed, EachLine}
use Rattle.sheet_import.proofs.Raw.{raw_fault}
use Rattle.sheet_import.proofs.Faults.{most_count}

-- ---- lines without fault

numbers_at : (ms : List ℕ) (fs : List (List ℕ)) → are_numbers ms fs ≡ true → (k : ℕ) → k < length ms → is_number (get_or ms k 0) (get_or fs k []) ≡ true
numbers_at [] fs h k l = absurd (omega arith)
numbers_at (m ∷ ms) [] h k l = absurd (true≢false (sym h))
numbers_at (m ∷ ms) (f ∷ fs) h zero l = (both (is_number m f) (are_numbers ms fs) h).0
numbers_at (m ∷ ms) (f ∷ fs) h (suc k) l = numbers_at ms fs (both (is_number m f) (are_numbers ms fs) h).1 k (omega arith)

sound : (r : SheetKind) (l : List ℕ) → line_fault r l ≡ 0 → Sound r l
sound r l e =
    let c = clear (line_table r (raw_of l)) (tt, (tt, (tt, tt))) (sym e ∙ raw_fault r l) in
    let n = not-false _ c.1.1.0 in
    record {
      reads = c.0;
      numbers = λ k h. rw (← get_or-drop (columns_of r).texts (raw_in l) k []) (numbers_at (columns_of r).most (drop (columns_of r).texts (raw_in l)) n k (omega (arith, most_count r)));
    }

pub sound_lines : (r : SheetKind) (text : List ℕ) → lines_fault r (lines_of text) ≡ 0 → EachLine (Sound r) text
sound_lines r text e = go (lines_of text) (sym e)
  where
    go : (ls : List (List ℕ)) → 0 ≡ lines_fault r ls → (k : ℕ) → k < length ls → Sound r (get_or ls k [])
    go [] h k l = absurd (omega arith)
    go (m ∷ ls) h zero l = sound r m (sym (or_else_zero (line_fault r m) (lines_fault r ls) h).0)
    go (m ∷ ls) h (suc k) l = go ls (or_else_zero (line_fault r m) (lines_fault r ls) h).1 k (omega arith)

-- ---- 21

abbrev is_formed : List ℕ → Bool
is_formed l = well_formed (padded 8 space (field_at (raw_of l) 0))

formed_numbers : (ls : List (List ℕ)) → all well_formed (numbers (devices_raw ls)) ≡ all is_formed ls
formed_numbers [] = refl
formed_numbers (l ∷ ls) = rw (formed_numbers ls)

rows_count : (ls : List (List ℕ)) → length (numbers (devices_raw ls)) ≡ length ls
rows_count ls = length-map (devices_raw ls) (λ (p : Part). p.number) ∙ length-map ls part_raw

pub fit_lines : (text : List ℕ) → unfit (devices_raw (lines_of text)) ≡ false → (length (lines_of text) ≤ 64) × EachLine Formed text
fit_lines text u =
    let ls = lines_of text in
    let m = (neither (malformed (numbers (devices_raw ls))) (not (all whole (devices_raw ls))) u).0 in
    let p = neither (ltb 64 (length (numbers (devices_raw ls)))) (not (all well_formed (numbers (devices_raw ls)))) m in
    let few = ltb-false 64 (length (numbers (devices_raw ls))) p.0 in
    (omega (arith, rows_count ls), go ls (sym (formed_numbers ls) ∙ not-false _ p.1))
  where
    go : (ls : List (List ℕ)) → all is_formed ls ≡ true → (k : ℕ) → k < length ls → Formed (get_or ls k [])
    go [] h k l = absurd (omega arith)
    go (m ∷ ls) h zero l = (both (is_formed m) (all is_formed ls) h).0
    go (m ∷ ls) h (suc k) l = go ls (both (is_formed m) (all is_formed ls) h).1 k (omega arith)
