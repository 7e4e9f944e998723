-- SheetKind laid one after the other as bytes, and taken apart again.
use mathlib.Core.Path.{◌≡◌, refl, ap, ◌∙◌}
use mathlib.Core.Bool.{true, false, not}
use mathlib.Core.List.{List, [], ◌∷◌, ◌++◌, map, map-append}
use Prim.Native.Nat.{ℕ, zero, suc, ◌+◌, ◌-◌, ◌*◌, ◌/◌, ◌<◌}
use native.Mathlib.Omega.{arith}
use native.Mathlib.Nat.{mul-suc, mul-zero}
use native.Mathlib.Numerals.{add-one}
use lib.ListN.{length, take, drop, get_or, length-append}
use lib.Seq.{take_at, drop_at, drop-drop, take-suc, take_all}
use lib.Dec.{eqb, ltb}
use borrow.Author.Tests.{not-false, eqb-true}
use Rattle.base.proofs.Arrays.{up_to_whole}
use Rattle.base.proofs.Every.{Every}
use Rattle.base.specs.Lists.{all}
use Rattle.base.specs.Bytes.{pieces, in_row}
use Rattle.base.proofs.Cases.{both, neither}
use Rattle.base.proofs.Pieces.{row_snoc}
use Rattle.catalogue.specs.Parts.{well_formed, malformed, Part, part_of, parts_of, numbers, whole, unfit}
use Rattle.catalogue.proofs.PartNumbers.{formed}
use Rattle.sheet.specs.Sheets.{part_bytes, catalogue_of}

-- ---- one more row, and all of them

module _ {A : Type 0} (row : A → List ℕ) (ls : List A) (z : A) where
  pub rows_more : (k : ℕ) → k < length ls → in_row (map row (take (k + 1) ls)) ≡ in_row (map row (take k ls)) ++ row (get_or ls k z)
  rows_more k h =
      let one : take (k + 1) ls ≡ take k ls ++ get_or ls k z ∷ [] = rw (add-one k) (take-suc ls k z h) in
      ap (λ (l : List A). in_row (map row l)) one
      ∙ rw (map-append row (take k ls) (get_or ls k z ∷ [])) (row_snoc (map row (take k ls)) (row (get_or ls k z)))

  pub rows_all : (k : ℕ) → k ≡ length ls → in_row (map row (take k ls)) ≡ in_row (map row ls)
  rows_all k e = ap (λ (l : List A). in_row (map row l)) (take_all k ls (omega arith))

pub row_map : {A B : Type 0} (f : A → B) (g : B → List ℕ) (xs : List A) → in_row (map (λ x. g (f x)) xs) ≡ in_row (map g (map f xs))
row_map f g [] = refl
row_map f g (x ∷ xs) = ap (λ (l : List ℕ). g (f x) ++ l) (row_map f g xs)

-- ---- and back

abbrev pub Sized : ℕ → List ℕ → Type 0
Sized n q = length q ≡ n

pub row_long : (n : ℕ) (qs : List (List ℕ)) → Every (Sized n) qs → length (in_row qs) ≡ n * length qs
row_long n [] h = omega (arith, mul-zero n)
row_long n (q ∷ qs) h = omega (arith, length-append q (in_row qs), h.0, row_long n qs h.1, mul-suc n (length qs))

piece_of : (n : ℕ) (qs : List (List ℕ)) → Every (Sized n) qs → (k : ℕ) → k < length qs → take n (drop (n * k) (in_row qs)) ≡ get_or qs k []
piece_of n [] h k l = absurd (omega arith)
piece_of n (q ∷ qs) h zero l = rw (mul-zero n) (take_at q (in_row qs) n h.0)
piece_of n (q ∷ qs) h (suc k) l =
    let e : n + n * k ≡ n * suc k = omega (arith, mul-suc n k) in
    let rest : drop (n * k) (drop n (q ++ in_row qs)) ≡ drop (n * k) (in_row qs) = ap (drop (n * k)) (drop_at q (in_row qs) n h.0) in
    rw (← e, ← drop-drop (n * k) n (q ++ in_row qs), rest) (piece_of n qs h.1 k (omega arith))

-- For every size of which the pieces are as many: each numeral but 0 is one.
pub pieces_back : (n : ℕ) (qs : List (List ℕ)) → Every (Sized n) qs → (length (in_row qs) + (n - 1)) / n ≡ length qs → pieces n (in_row qs) ≡ qs
unfolding pieces
pieces_back n qs h e = rw e (up_to_whole (λ k. take n (drop (n * k) (in_row qs))) qs [] (length qs) refl (piece_of n qs h))

-- The parts of a catalogue made of parts are these.
abbrev pub PartSized : Part → Type 0
PartSized p = (length p.number ≡ 8) × (length p.device ≡ 7)

part_back : (p : Part) → PartSized p → part_of (part_bytes p) ≡ p
part_back p h = rw (take_at p.number p.device 8 h.0, drop_at p.number p.device 8 h.0)

pub parts_back : (ps : List Part) → Every PartSized ps → parts_of (catalogue_of ps) ≡ ps
parts_back ps h = ap (map part_of) (pieces_back 15 (map part_bytes ps) (sized ps h) (omega (arith, row_long 15 (map part_bytes ps) (sized ps h)))) ∙ back ps h
  where
    sized : (qs : List Part) → Every PartSized qs → Every (Sized 15) (map part_bytes qs)
    sized [] h = tt
    sized (q ∷ qs) h = (omega (arith, length-append q.number q.device, h.0.0, h.0.1), sized qs h.1)

    back : (qs : List Part) → Every PartSized qs → map part_of (map part_bytes qs) ≡ qs
    back [] h = refl
    back (q ∷ qs) h = let e = part_back q h.0 in let f = back qs h.1 in cc

pub fit_sized : (ps : List Part) → unfit ps ≡ false → Every PartSized ps
fit_sized ps u =
    let w = neither (malformed (numbers ps)) (not (all whole ps)) u in
    let p = neither (ltb 64 (length (numbers ps))) (not (all well_formed (numbers ps))) w.0 in
    go ps (not-false _ p.1) (not-false _ w.1)
  where
    go : (qs : List Part) → all well_formed (numbers qs) ≡ true → all whole qs ≡ true → Every PartSized qs
    go [] f w = tt
    go (q ∷ qs) f w =
        let a = both (well_formed q.number) (all well_formed (numbers qs)) f in
        let b = both (eqb (length q.device) 7) (all whole qs) w in
        (((formed q.number a.0).0, eqb-true (length q.device) 7 b.0), go qs a.1 b.1)
