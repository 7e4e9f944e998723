-- The first line at fault, as the walk tells it and as the promise does; and the first unfit part of a table, raw or not.
use mathlib.Core.Path.{◌≡◌, refl, sym, ap, ◌∙◌}
use mathlib.Core.Bool.{Bool, true, false, cond}
use mathlib.Core.List.{List, [], ◌∷◌}
use Prim.Native.Nat.{ℕ, zero, suc, ◌+◌, ◌<◌, ◌≤◌}
use native.Mathlib.Omega.{arith}
use lib.ListN.{length, get_or, take, drop}
use lib.Dec.{eqb, leb}
use borrow.Author.Tests.{eqb-false, ne_eqb, le-leb, lt-leb, not-true, not-false}
use Rattle.base.specs.Lists.{padded}
use Rattle.base.proofs.Cases.{test_cases, or_right}
use Rattle.catalogue.specs.Parts.{space, well_formed, whole, numbers}
use Rattle.catalogue.specs.Faults.{First, no_part, unfit_at}
use Rattle.text.specs.Grammar.{lines_of}
use Rattle.text.specs.inside.Cursors.{raw_of, field_at, line_length, next_line}
use Rattle.text.proofs.Scanning.{line_first, lines_past}
use Rattle.sheet.specs.declared.SheetKind.{SheetKind}
use Rattle.sheet.specs.Sheets.{line_fault, lines_fault}
use Rattle.sheet_import.specs.LineFaults.{LineTold, line_fault_at, faulty_at, SheetFault, line}
use Rattle.sheet_import.specs.inside.Reading.{devices_raw}
use Rattle.sheet_import.specs.inside.Judging.{first_line}

-- ---- the walk

module _ (r : SheetKind) (k : ℕ) (s : List ℕ) where
  pub walk_step : 0 < length s
      → first_line r k (lines_of s) ≡ cond (eqb (line_fault r (take (line_length s) s)) 0) (first_line r (suc k) (lines_of (drop (next_line s) s))) (line_fault_at (line_fault r (take (line_length s) s)) k)
  unfolding first_line
  walk_step h = ap (first_line r k) (line_first s h)

  -- The first of these lines is at fault, or has none and the others are walked.
  pub walk_err : (n : ℕ) → 0 < length s → 0 < n → n ≡ line_fault r (take (line_length s) s) → line_fault_at n k ≡ first_line r k (lines_of s)
  walk_err n h m e = sym (walk_step h ∙ rw (← e, ne_eqb n 0 (λ z. omega (arith, z))))

  pub walk_ok : 0 < length s → 0 ≡ line_fault r (take (line_length s) s) → first_line r k (lines_of s) ≡ first_line r (suc k) (lines_of (drop (next_line s) s))
  walk_ok h e = walk_step h ∙ rw (← e)

pub walk_done : (r : SheetKind) (k : ℕ) (s : List ℕ) (i : ℕ) → i ≡ length s → first_line r k (lines_of (drop i s)) ≡ line_fault_at 0 0
unfolding first_line
walk_done r k s i e = ap (first_line r k) (lines_past s i e)

pub walk_number : (r : SheetKind) (k : ℕ) (ls : List (List ℕ)) → (first_line r k ls).number ≡ lines_fault r ls
unfolding first_line
walk_number r k [] = refl
walk_number r k (l ∷ ls) =
    test_cases (λ b. (cond b (first_line r (suc k) ls) (line_fault_at (line_fault r l) k)).number ≡ cond b (lines_fault r ls) (line_fault r l)) (eqb (line_fault r l) 0)
    (λ e. walk_number r (suc k) ls)
    (λ e. refl)

-- ---- the first line

first_later : {n : ℕ} {test : ℕ → Bool} {j : ℕ} → test 0 ≡ false → First n (λ i. test (suc i)) j → First (suc n) test (suc j)
first_later {n} {test} {j} e f =
    record {
      within = omega (arith, f.within);
      before = go;
      here = λ h. f.here (omega arith);
    }
  where
    go : (i : ℕ) → i < suc j → test i ≡ false
    go zero h = e
    go (suc i) h = f.before i (omega arith)

first_sooner : {n : ℕ} {test : ℕ → Bool} {j : ℕ} → First (suc n) test (suc j) → First n (λ i. test (suc i)) j
first_sooner f = record { within = omega (arith, f.within); before = λ i h. f.before (suc i) (omega arith); here = λ h. f.here (omega arith) }

module _ (r : SheetKind) where
  -- What the walk tells is the first line at fault.
  pub walk_first : (k : ℕ) (ls : List (List ℕ)) → (lines_fault r ls ≡ 0 → ⊥)
      → (j : ℕ) × First (length ls) (faulty_at r ls) j × (j < length ls) × (first_line r k ls ≡ line_fault_at (line_fault r (get_or ls j [])) (k + j))
  unfolding first_line
  walk_first k [] n = absurd (n refl)
  walk_first k (l ∷ ls) n = go (eqb (line_fault r l) 0) refl (walk_first (suc k) ls)
    where
      go : (b : Bool) → eqb (line_fault r l) 0 ≡ b
          → ((lines_fault r ls ≡ 0 → ⊥) → (j : ℕ) × First (length ls) (faulty_at r ls) j × (j < length ls) × (first_line r (suc k) ls ≡ line_fault_at (line_fault r (get_or ls j [])) (suc k + j)))
          → (j : ℕ) × First (suc (length ls)) (faulty_at r (l ∷ ls)) j × (j < suc (length ls))
          × (cond (eqb (line_fault r l) 0) (first_line r (suc k) ls) (line_fault_at (line_fault r l) k) ≡ line_fault_at (line_fault r (get_or (l ∷ ls) j [])) (k + j))
      go true e rest =
          let f = rest (λ z. n (rw e z)) in
          let on : suc k + f.0 ≡ k + suc f.0 = omega arith in
          (suc f.0, first_later (rw e) f.1, omega (arith, f.2), rw (e, ← on) f.3)
      go false e rest =
          let on : k ≡ k + 0 = omega arith in
          (0, record { within = omega arith; before = λ i h. absurd (omega arith); here = λ h. rw e }, omega arith, rw (e, ← on))

  -- The first line at fault is what the lines are refused for.
  pub first_fault : (ls : List (List ℕ)) (k : ℕ) → First (length ls) (faulty_at r ls) k → k < length ls
      → (lines_fault r ls ≡ line_fault r (get_or ls k [])) × (line_fault r (get_or ls k []) ≡ 0 → ⊥)
  first_fault [] k f h = absurd (omega arith)
  first_fault (l ∷ ls) zero f h =
      let e = not-true (eqb (line_fault r l) 0) (f.here h) in
      (rw e, eqb-false (line_fault r l) 0 e)
  first_fault (l ∷ ls) (suc k) f h =
      let e = not-false (eqb (line_fault r l) 0) (f.before 0 (omega arith)) in
      let p = first_fault ls k (first_sooner f) (omega arith) in
      (rw e p.0, p.1)

  pub walk_told : (text : List ℕ) (Table : LineTold → Type 0) → (lines_fault r (lines_of text) ≡ 0 → ⊥) → SheetFault r text Table (first_line r 0 (lines_of text))
  walk_told text Table n =
      let f = walk_first 0 (lines_of text) n in
      let z : 0 + f.0 ≡ f.0 = omega arith in
      rw (f.3, z) (line f.1 f.2)

-- ---- the parts of a raw table

abbrev is_formed : List ℕ → Bool
is_formed l = well_formed (padded 8 space (field_at (raw_of l) 0))

number_raw : (ls : List (List ℕ)) (i : ℕ) → i < length ls → well_formed (get_or (numbers (devices_raw ls)) i []) ≡ is_formed (get_or ls i [])
number_raw [] i h = absurd (omega arith)
number_raw (l ∷ ls) zero h = refl
number_raw (l ∷ ls) (suc i) h = number_raw ls i (omega arith)

whole_raw : (ls : List (List ℕ)) (i : ℕ) → i < length ls → whole (get_or (devices_raw ls) i no_part) ≡ true
whole_raw [] i h = absurd (omega arith)
whole_raw (l ∷ ls) zero h = refl
whole_raw (l ∷ ls) (suc i) h = whole_raw ls i (omega arith)

module _ (ls : List (List ℕ)) (i : ℕ) (h : i < length ls) where
  pub raw_many : 64 ≤ i → unfit_at (devices_raw ls) i ≡ true
  raw_many l = rw (le-leb 64 i l)

  pub raw_badly : is_formed (get_or ls i []) ≡ false → unfit_at (devices_raw ls) i ≡ true
  raw_badly e = or_right (leb 64 i) (rw (number_raw ls i h ∙ e))

  pub raw_fit : i < 64 → is_formed (get_or ls i []) ≡ true → unfit_at (devices_raw ls) i ≡ false
  raw_fit l e = rw (lt-leb 64 i l, number_raw ls i h ∙ e, whole_raw ls i h)
