-- What the tests of 21, 22 and 23 mean, in plain words, and that the pieces of lent bytes are the bytes.
use mathlib.Core.Path.{◌≡◌, refl, sym, ap, ◌∙◌}
use mathlib.Core.Bool.{Bool, true, false, not, ◌&&◌, ◌||◌, true≢false}
use mathlib.Core.List.{List, [], ◌∷◌, map}
use Prim.Native.Nat.{ℕ, zero, suc, ◌*◌, ◌<◌, ◌≤◌}
use native.Mathlib.Omega.{arith}
use lib.ListN.{length, drop, get_or, length-append, length-drop, length-map}
use lib.Dec.{eqb, ltb}
use borrow.Author.Tests.{eqb-true, ltb-false, not-true, not-false}
use Rattle.base.proofs.Pieces.{pieces_row}
use Rattle.base.specs.Lists.{all}
use Rattle.base.specs.Bytes.{same, pieces, in_row}
use Rattle.base.proofs.Cases.{both, neither, or_right}
use Rattle.base.proofs.Comparing.{same_true, same_self}
use Rattle.catalogue.specs.Parts.{has, well_formed, malformed, repeated, Part, part_of, parts_of, numbers, whole, unfit, lacking, Has}
use Rattle.catalogue.proofs.Lookup.{has_found}

-- ---- 22: two places hold the same number

pub has_at : (ns : List (List ℕ)) (n : List ℕ) → has ns n ≡ true → (j : ℕ) × (j < length ns) × (n ≡ get_or ns j [])
has_at [] n h = absurd (true≢false (sym h))
has_at (m ∷ ns) n h = go (same n m) refl h (has_at ns n)
  where
    go : (x : Bool) → same n m ≡ x → x || has ns n ≡ true → (has ns n ≡ true → (j : ℕ) × (j < length ns) × (n ≡ get_or ns j []))
        → (j : ℕ) × (j < suc (length ns)) × (n ≡ get_or (m ∷ ns) j [])
    go true e k rest = (0, omega arith, same_true n m e)
    go false e k rest = let r = rest k in (suc r.0, omega (arith, r.1), r.2)

pub at_has : (ns : List (List ℕ)) (j : ℕ) → j < length ns → has ns (get_or ns j []) ≡ true
at_has [] j h = absurd (omega arith)
at_has (m ∷ ns) zero h = rw (same_self m)
at_has (m ∷ ns) (suc j) h = or_right (same (get_or ns j []) m) (at_has ns j (omega arith))

abbrev pub Twice : List (List ℕ) → Type 0
Twice ns = (i : ℕ) × (j : ℕ) × (i < j) × (j < length ns) × (get_or ns i [] ≡ get_or ns j [])

pub repeated_twice : (ns : List (List ℕ)) → repeated ns ≡ true → Twice ns
repeated_twice [] h = absurd (true≢false (sym h))
repeated_twice (n ∷ ns) h = go (has ns n) refl h (repeated_twice ns)
  where
    go : (x : Bool) → has ns n ≡ x → x || repeated ns ≡ true → (repeated ns ≡ true → Twice ns) → Twice (n ∷ ns)
    go true e k rest = let r = has_at ns n e in (0, suc r.0, omega arith, omega (arith, r.1), r.2)
    go false e k rest = let r = rest k in (suc r.0, suc r.1, omega (arith, r.2), omega (arith, r.3), r.4)

pub twice_repeated : (ns : List (List ℕ)) (i j : ℕ) → i < j → j < length ns → get_or ns i [] ≡ get_or ns j [] → repeated ns ≡ true
twice_repeated [] i j h k e = absurd (omega arith)
twice_repeated (n ∷ ns) i zero h k e = absurd (omega arith)
twice_repeated (n ∷ ns) zero (suc j) h k e = let a : has ns n ≡ true = rw e (at_has ns j (omega arith)) in rw a
twice_repeated (n ∷ ns) (suc i) (suc j) h k e = or_right (has ns n) (twice_repeated ns i j (omega arith) (omega arith) e)

-- ---- 23: a wanted number that no part has

none_at : (t : List ℕ → Bool) (ws : List (List ℕ)) → all t ws ≡ false → (k : ℕ) × (k < length ws) × (t (get_or ws k []) ≡ false)
none_at t [] h = absurd (true≢false h)
none_at t (w ∷ ws) h = go (t w) refl h (none_at t ws)
  where
    go : (x : Bool) → t w ≡ x → x && all t ws ≡ false → (all t ws ≡ false → (k : ℕ) × (k < length ws) × (t (get_or ws k []) ≡ false))
        → (k : ℕ) × (k < suc (length ws)) × (t (get_or (w ∷ ws) k []) ≡ false)
    go true e k rest = let r = rest k in (suc r.0, omega (arith, r.1), r.2)
    go false e k rest = (0, omega arith, e)

pub lacking_means : (ps : List Part) (ws : List (List ℕ)) → lacking ps ws ≡ true
    → (k : ℕ) × (k < length ws) × ((d : List ℕ) → Has ps (get_or ws k []) d → ⊥)
lacking_means ps ws h =
    let r = none_at (has (numbers ps)) ws (not-true _ h) in
    (r.0, r.1, λ d f. true≢false (sym (has_found ps (get_or ws r.0 []) d f) ∙ r.2))

-- ---- the pieces in a row

pub parts_row : (s : List ℕ) → in_row (pieces 15 s) ≡ s
parts_row s = pieces_row 15 s (omega arith)

pub wanted_row : (s : List ℕ) → in_row (pieces 8 s) ≡ s
wanted_row s = pieces_row 8 s (omega arith)

-- ---- 21: with it passed, the catalogue is whole parts of 15 bytes, at most 64 of them

row_length : (ps : List (List ℕ)) → all whole (map part_of ps) ≡ true → length (in_row ps) ≡ 15 * length ps
row_length [] h = refl
row_length (p ∷ ps) h =
    let w = both (eqb (length (drop 8 p)) 7) (all whole (map part_of ps)) h in
    let e = eqb-true (length (drop 8 p)) 7 w.0 in
    rw length-append (omega (arith, row_length ps w.1, e, length-drop 8 p))

pub whole_catalogue : (s : List ℕ) → unfit (parts_of s) ≡ false → (length s ≡ 15 * length (parts_of s)) × (length (parts_of s) ≤ 64)
whole_catalogue s h =
    let w = neither (malformed (numbers (parts_of s))) (not (all whole (parts_of s))) h in
    let m = neither (ltb 64 (length (numbers (parts_of s)))) (not (all well_formed (numbers (parts_of s)))) w.0 in
    let r = row_length (pieces 15 s) (not-false _ w.1) in
    let few = ltb-false 64 (length (numbers (parts_of s))) m.0 in
    let a = length-map (pieces 15 s) part_of in
    let b = length-map (parts_of s) (λ (p : Part). p.number) in
    let c = ap length (parts_row s) in
    (omega arith, omega arith)
