-- What the code that judges lines works out is what the definitions say.
use mathlib.Core.Path.{◌≡◌, refl, sym, ap, ◌∙◌}
use mathlib.Core.Bool.{Bool, true, false, ◌&&◌}
use mathlib.Core.List.{List, [], ◌∷◌}
use Rattle.std.specs.Prelude.{Option, Some, None, Result, Err, ok_or}
use Rattle.base.specs.Reasons as R
use Rattle.base.specs.declared.reasons.Reason.{Reason}
use Rattle.base.specs.declared.reasons.Reason.TheVariants.{StrayQuote}
use Prim.Native.Nat.{ℕ, zero, suc, ◌+◌, ◌<◌, ◌≤◌}
use native.Mathlib.Omega.{arith}
use native.Mathlib.Numerals.{add-one}
use lib.ListN.{length, drop, get_or}
use lib.Seq.{drop-cons, drop-drop, get_or-drop}
use borrow.Author.Tests.{eq-eqb, ne_eqb}
use Rattle.text.specs.Grammar.{unread}
use Rattle.text.specs.Numerals.{is_number}
use Rattle.text.specs.inside.Cursors.{raw_of, counted, number_of, fits}
use Rattle.text.proofs.Cutting.{count_read, count_none}
use Rattle.text.proofs.Scanning.{number_test}
use Rattle.sheet.specs.declared.SheetKind.{SheetKind}
use Rattle.sheet.specs.declared.SheetKind.TheVariants.{Devices, Jobs}
use Rattle.sheet.specs.Sheets.{columns_of, are_numbers, line_fault}
use Rattle.sheet_import.specs.inside.Reading.{raw_in}
use Rattle.sheet_import.proofs.Raw.{raw_fault}

-- ---- the bounds

pub wide_devices : (k : ℕ) → k < 4 → (k ≡ 0 → ⊥) → 65535 ≡ get_or (columns_of Devices).most k 0
wide_devices zero h n = absurd (n refl)
wide_devices (suc zero) h n = refl
wide_devices (suc (suc zero)) h n = refl
wide_devices (suc (suc (suc zero))) h n = refl
wide_devices (suc (suc (suc (suc k)))) h n = absurd (omega arith)

pub wide_jobs : (k : ℕ) → k < 4 → (k ≡ 3 → ⊥) → 65535 ≡ get_or (columns_of Jobs).most k 0
wide_jobs zero h n = refl
wide_jobs (suc zero) h n = refl
wide_jobs (suc (suc zero)) h n = refl
wide_jobs (suc (suc (suc zero))) h n = absurd (n refl)
wide_jobs (suc (suc (suc (suc k)))) h n = absurd (omega arith)

pub most_count : (r : SheetKind) → length (columns_of r).most ≡ 4
most_count Devices = refl
most_count Jobs = refl

pub few_texts : (r : SheetKind) → (columns_of r).texts ≤ 1
few_texts Devices = omega arith
few_texts Jobs = omega arith

most_small : (r : SheetKind) (k : ℕ) → k < 4 → get_or (columns_of r).most k 0 < 65536
most_small Devices zero h = omega arith
most_small Devices (suc zero) h = omega arith
most_small Devices (suc (suc zero)) h = omega arith
most_small Devices (suc (suc (suc zero))) h = omega arith
most_small Devices (suc (suc (suc (suc k)))) h = absurd (omega arith)
most_small Jobs zero h = omega arith
most_small Jobs (suc zero) h = omega arith
most_small Jobs (suc (suc zero)) h = omega arith
most_small Jobs (suc (suc (suc zero))) h = omega arith
most_small Jobs (suc (suc (suc (suc k)))) h = absurd (omega arith)

-- ---- the numbers of a line, one by one

first_number : (m : ℕ) (ms : List ℕ) (gs : List (List ℕ)) → are_numbers (m ∷ ms) gs ≡ is_number m (get_or gs 0 []) && are_numbers ms (drop 1 gs)
first_number m ms [] = refl
first_number m ms (g ∷ gs) = refl

module _ (r : SheetKind) (fs : List (List ℕ)) (k : ℕ) (h : k < 4) where
  -- The numbers from number k on.
  abbrev pub Left : ℕ → Bool
  Left i = are_numbers (drop i (columns_of r).most) (drop ((columns_of r).texts + i) fs)

  next_number : Left k ≡ is_number (get_or (columns_of r).most k 0) (get_or fs ((columns_of r).texts + k) []) && Left (k + 1)
  next_number =
      let at = (columns_of r).texts + k in
      let here : at + 0 ≡ at = omega arith in
      let f : get_or (drop at fs) 0 [] ≡ get_or fs at [] = get_or-drop at fs 0 [] ∙ ap (λ (x : ℕ). get_or fs x []) here in
      let on : at + 1 ≡ (columns_of r).texts + (k + 1) = omega arith in
      let rest : drop 1 (drop at fs) ≡ drop ((columns_of r).texts + (k + 1)) fs = drop-drop 1 at fs ∙ ap (λ (x : ℕ). drop x fs) on in
      ap (λ (ms : List ℕ). are_numbers ms (drop at fs)) (drop-cons (columns_of r).most k 0 (omega (arith, most_count r)))
      ∙ first_number (get_or (columns_of r).most k 0) (drop (suc k) (columns_of r).most) (drop at fs) ∙ rw (f, rest, add-one k)

  test : fits (get_or (columns_of r).most k 0) (number_of (get_or fs ((columns_of r).texts + k) [])) ≡ is_number (get_or (columns_of r).most k 0) (get_or fs ((columns_of r).texts + k) [])
  test = number_test (get_or (columns_of r).most k 0) (get_or fs ((columns_of r).texts + k) []) (most_small r k h)

  pub number_fails : fits (get_or (columns_of r).most k 0) (number_of (get_or fs ((columns_of r).texts + k) [])) ≡ false → Left k ≡ false
  number_fails l = next_number ∙ rw (← test, l)

  pub number_passes : fits (get_or (columns_of r).most k 0) (number_of (get_or fs ((columns_of r).texts + k) [])) ≡ true → Left k ≡ Left (k + 1)
  number_passes l = next_number ∙ rw (← test, l)

pub numbers_done : (r : SheetKind) (fs : List (List ℕ)) (k : ℕ) → k ≡ 4 → are_numbers (drop k (columns_of r).most) (drop ((columns_of r).texts + k) fs) ≡ true
numbers_done Devices fs k e = rw e
numbers_done Jobs fs k e = rw e

-- ---- a line

pub stray : (o : Option ℕ) (e : Reason) → o ≡ None → Err e ≡ ok_or o StrayQuote → R.number_of e ≡ 27
stray o e n q =
    let f : ◌≡◌ {A = Result ℕ Reason} (Err e) (Err StrayQuote) = q ∙ ap (λ x. ok_or x StrayQuote) n in
    let g : e ≡ StrayQuote = cc in
    rw g

module _ (r : SheetKind) (l : List ℕ) where
  pub fault_27 : counted 0 (raw_of l) ≡ None → 27 ≡ line_fault r l
  fault_27 e = sym (raw_fault r l ∙ rw (count_none (raw_of l) e))

  module _ (n : ℕ) (h : counted 0 (raw_of l) ≡ Some n) where
    pub counted_read : unread (raw_of l) ≡ false
    counted_read = (count_read (raw_of l) n h).0

    pub fault_28 : (n ≡ (columns_of r).texts + 4 → ⊥) → 28 ≡ line_fault r l
    fault_28 m =
        let c = count_read (raw_of l) n h in
        sym (raw_fault r l ∙ rw (c.0, ne_eqb (length (raw_in l)) ((columns_of r).texts + 4) (λ e. m (c.1 ∙ e))))

    module _ (e : n ≡ (columns_of r).texts + 4) where
      pub fault_29 : are_numbers (columns_of r).most (drop (columns_of r).texts (raw_in l)) ≡ false → 29 ≡ line_fault r l
      fault_29 m =
          let c = count_read (raw_of l) n h in
          sym (raw_fault r l ∙ rw (c.0, eq-eqb (length (raw_in l)) ((columns_of r).texts + 4) (sym c.1 ∙ e), m))

      pub fault_none : are_numbers (columns_of r).most (drop (columns_of r).texts (raw_in l)) ≡ true → 0 ≡ line_fault r l
      fault_none m =
          let c = count_read (raw_of l) n h in
          sym (raw_fault r l ∙ rw (c.0, eq-eqb (length (raw_in l)) ((columns_of r).texts + 4) (sym c.1 ∙ e), m))
