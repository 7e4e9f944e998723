-- What refuses a line, and all lines before their table: wherever a line of a text is at fault, the text is refused by a number of a line, 27, 28 or 29, though
-- an earlier line may hold what its table would be refused for.
use mathlib.Core.Path.{◌≡◌, refl}
use mathlib.Core.Bool.{Bool, true, ◌&&◌}
use mathlib.Core.List.{List, [], ◌∷◌}
use mathlib.Core.Option.{some}
use Prim.Native.Nat.{ℕ, zero, suc, ◌+◌, ◌<◌, ◌≤◌}
use native.Mathlib.Omega.{arith}
use lib.ListN.{length, drop, get_or}
use lib.Dec.{eqb, leb}
use borrow.Author.Tests.{leb-true, eqb-true, eqb-false}
use Rattle.base.specs.Refusals.{Refusal, first_that, or_else}
use Rattle.base.proofs.Cases.{cond_cases, both}
use Rattle.base.specs.Lists.{all}
use Rattle.text.specs.Grammar.{lines_of, fields_of}
use Rattle.sheet.specs.declared.SheetKind.{SheetKind}
use Rattle.sheet.specs.declared.SheetKind.TheVariants.{Devices, Jobs}
use Rattle.sheet.specs.Sheets.{columns_of, are_numbers, line_table, line_fault, lines_fault, devices_refused, jobs_refused}

abbrev pub OfLine : ℕ → Type 0
OfLine n = (27 ≤ n) × (n ≤ 29)

-- ---- one line

abbrev is_of_line : Refusal → Bool
is_of_line r = leb 27 r.number && leb r.number 29

table_number : (rs : List Refusal) → all is_of_line rs ≡ true → (first_that rs ≡ 0 → ⊥) → OfLine (first_that rs)
table_number [] h n = absurd (n refl)
table_number (r ∷ rs) h n =
    let p = both (is_of_line r) (all is_of_line rs) h in
    let q = both (leb 27 r.number) (leb r.number 29) p.0 in
    cond_cases (λ x. (x ≡ 0 → ⊥) → OfLine x) r.test (λ _ _. (leb-true 27 r.number q.0, leb-true r.number 29 q.1))
    (λ _ m. table_number rs p.1 m) n

-- A line is refused by no other number.
pub line_number : (r : SheetKind) (l : List ℕ) → (line_fault r l ≡ 0 → ⊥) → OfLine (line_fault r l)
line_number r l = table_number (line_table r (fields_of l)) refl

-- With its fields in number and its numbers within their bounds it passes.
pub passes : (r : SheetKind) (l : List ℕ) (fs : List (List ℕ)) → fields_of l ≡ some fs → eqb (length fs) ((columns_of r).texts + 4) ≡ true
    → are_numbers (columns_of r).most (drop (columns_of r).texts fs) ≡ true → line_fault r l ≡ 0
passes r l fs e p q = rw (e, p, q)

-- ---- all lines, and the table behind them

lines_number : (r : SheetKind) (ls : List (List ℕ)) (k : ℕ) → k < length ls → (line_fault r (get_or ls k []) ≡ 0 → ⊥) → OfLine (lines_fault r ls)
lines_number r [] k h n = absurd (omega arith)
lines_number r (l ∷ ls) zero h n =
    cond_cases OfLine (eqb (line_fault r l) 0) (λ e. absurd (n (eqb-true (line_fault r l) 0 e))) (λ e. line_number r l n)
lines_number r (l ∷ ls) (suc k) h n =
    cond_cases OfLine (eqb (line_fault r l) 0) (λ e. lines_number r ls k (omega arith) n) (λ e. line_number r l (eqb-false (line_fault r l) 0 e))

first : (f rest : ℕ) → OfLine f → OfLine (or_else f rest)
first f rest h = cond_cases OfLine (eqb f 0) (λ e. absurd (omega (arith, eqb-true f 0 e))) (λ e. h)

module _ (text : List ℕ) (k : ℕ) (h : k < length (lines_of text)) where
  pub device_line_first : (line_fault Devices (get_or (lines_of text) k []) ≡ 0 → ⊥) → OfLine (devices_refused text)
  device_line_first n = first (lines_fault Devices (lines_of text)) _ (lines_number Devices (lines_of text) k h n)

  pub job_line_first : (line_fault Jobs (get_or (lines_of text) k []) ≡ 0 → ⊥) → OfLine (jobs_refused text)
  job_line_first n = first (lines_fault Jobs (lines_of text)) _ (lines_number Jobs (lines_of text) k h n)
