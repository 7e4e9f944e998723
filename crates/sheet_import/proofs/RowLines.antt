-- Lines without fault, one after the other: their fields as numbers and part numbers, and their rows as bytes.
use mathlib.Core.Path.{◌≡◌, refl}
use mathlib.Core.Bool.{true, ◌&&◌}
use mathlib.Core.List.{List}
use Rattle.std.specs.Prelude.{Some}
use Prim.Native.Nat.{ℕ, ◌+◌, ◌*◌, ◌<◌, ◌≤◌}
use native.Mathlib.Omega.{arith}
use native.Mathlib.Nat.{add-mul, one-mul, mul-le-mul_right}
use lib.ListN.{length, length-append}
use lib.Dec.{leb, ltb}
use borrow.Author.Tests.{leb-true, le-leb}
use Rattle.base.specs.Lists.{padded, all}
use Rattle.base.proofs.Cases.{both}
use Rattle.catalogue.specs.Parts.{space}
use Rattle.catalogue.proofs.PartNumbers.{formed}
use Rattle.text.specs.Numerals.{digit, value_of, is_number}
use Rattle.text.specs.inside.Cursors.{raw_of, field_at, number_of}
use Rattle.text.proofs.Scanning.{number_value}
use Rattle.sheet.specs.declared.SheetKind.{SheetKind}
use Rattle.sheet.specs.declared.SheetKind.TheVariants.{Devices, Jobs}
use Rattle.sheet_import.specs.inside.Reading.{part_raw}
use Rattle.sheet_import.specs.inside.RowBytes.{row_bytes, row_size, Ready}

-- ---- fields

-- A field that is a number counts as its value, which keeps its bound.
pub number_is : (m : ℕ) (f : List ℕ) → m < 65536 → is_number m f ≡ true → (number_of f ≡ Some (value_of f)) × (value_of f ≤ m) × (is_number 65535 f ≡ true)
number_is m f h e =
    let v = number_value m f h e in
    let p = both (ltb 0 (length f)) (all digit f && leb (value_of f) m) e in
    let q = both (all digit f) (leb (value_of f) m) p.1 in
    let few = leb-true (value_of f) m q.1 in
    (v, few, rw (p.0, q.0, le-leb (value_of f) 65535 (omega arith)))

-- ---- rows

-- A part has fifteen bytes, a job record seven.
pub row_size_lem : (r : SheetKind) (l : List ℕ) → Ready r l → length (row_bytes r l) ≡ row_size r
row_size_lem Devices l h =
    let n = (formed (padded 8 space (field_at (raw_of l) 0)) h.1).0 in
    omega (arith, length-append (part_raw l).number (part_raw l).device)
row_size_lem Jobs l h = refl

-- So many rows of a size: one more, and before the last there is room for one.
pub one_more : (k n : ℕ) → (k + 1) * n ≡ k * n + n
one_more k n = omega (arith, add-mul k 1 n, one-mul n)

pub room_left : {k m : ℕ} (n : ℕ) {room : ℕ} → k < m → m * n ≤ room → k * n + n ≤ room
room_left {k} {m} n h r = let l : k + 1 ≤ m = omega arith in omega (arith, one_more k n, mul-le-mul_right n l)
