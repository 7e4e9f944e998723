-- An import that leaves two quotes between quotes as they stand gives what the import gives: the code need not put one for two.
use mathlib.Core.Path.{◌≡◌, refl, sym, ap, ◌∙◌}
use mathlib.Core.Bool.{Bool, true, false, not, ◌||◌, true≢false}
use mathlib.Core.List.{List, [], ◌∷◌, map}
use mathlib.Core.Logic.{◌⊎◌, inl, inr, ⊎_elim}
use mathlib.Core.Option
use mathlib.Core.Option.{Option, none, some}
use Prim.Native.Nat.{ℕ, zero, suc, ◌+◌}
use native.Mathlib.Omega.{arith}
use lib.ListN.{length, drop, get_or}
use lib.Dec.{ltb, eqb-suc-zero}
use borrow.Author.Tests.{eqb-true, not-false}
use Rattle.base.specs.Refusals.{◌⇒◌, first_that, or_else}
use Rattle.base.proofs.Clear.{clear}
use Rattle.base.proofs.Records.{or_else_zero}
use Rattle.base.specs.Lists.{all}
use Rattle.base.proofs.Cases.{both, neither}
use Rattle.tables.specs.declared.JobRecord.{JobRecord}
use Rattle.catalogue.specs.Parts.{well_formed, malformed, repeated, unfit, whole, Part, numbers}
use Rattle.catalogue.specs.Faults.{no_part, unfit_at}
use Rattle.text.specs.Grammar.{lines_of, fields_of}
use Rattle.text.specs.inside.Cursors.{raw_of}
use Rattle.text.specs.Numerals.{is_number}
use Rattle.text.proofs.Quotes.{quote_29, Like, LikeAll, LikeRead, raw_like}
use Rattle.sheet.proofs.Signs.{quote_21}
use Rattle.sheet.specs.declared.SheetKind.{SheetKind}
use Rattle.sheet.specs.declared.SheetKind.TheVariants.{Devices, Jobs}
use Rattle.sheet.specs.Sheets.{columns_of, are_numbers, fields_in, line_table, line_fault, lines_fault, part_in, job_in, parts_in, jobs_in, parts_fault, devices_refused, jobs_refused}
use Rattle.sheet_import.specs.inside.Reading.{raw_in, devices_raw, jobs_raw}

-- ---- a line's fault

like_number : (m : ℕ) (f g : List ℕ) → Like f g → is_number m f ≡ is_number m g
like_number m f g (inl e) = ap (is_number m) e
like_number m f g (inr h) = quote_29 m f h.0 ∙ sym (quote_29 m g h.1)

like_numbers : (ms : List ℕ) (fs gs : List (List ℕ)) → LikeAll fs gs → are_numbers ms fs ≡ are_numbers ms gs
like_numbers [] fs gs h = refl
like_numbers (m ∷ ms) [] [] h = refl
like_numbers (m ∷ ms) [] (g ∷ gs) h = absurd h
like_numbers (m ∷ ms) (f ∷ fs) [] h = absurd h
like_numbers (m ∷ ms) (f ∷ fs) (g ∷ gs) h = rw (like_number m f g h.0, like_numbers ms fs gs h.1)

like_length : (fs gs : List (List ℕ)) → LikeAll fs gs → length fs ≡ length gs
like_length [] [] h = refl
like_length [] (g ∷ gs) h = absurd h
like_length (f ∷ fs) [] h = absurd h
like_length (f ∷ fs) (g ∷ gs) h = ap suc (like_length fs gs h.1)

like_drop : (n : ℕ) (fs gs : List (List ℕ)) → LikeAll fs gs → LikeAll (drop n fs) (drop n gs)
like_drop zero fs gs h = h
like_drop (suc n) [] [] h = h
like_drop (suc n) [] (g ∷ gs) h = absurd h
like_drop (suc n) (f ∷ fs) [] h = absurd h
like_drop (suc n) (f ∷ fs) (g ∷ gs) h = like_drop n fs gs h.1

like_line : (r : SheetKind) (o p : Option (List (List ℕ))) → LikeRead o p → first_that (line_table r o) ≡ first_that (line_table r p)
like_line r none none h = refl
like_line r none (some gs) h = absurd h
like_line r (some fs) none h = absurd h
like_line r (some fs) (some gs) h =
    rw (like_length fs gs h, like_numbers (columns_of r).most (drop (columns_of r).texts fs) (drop (columns_of r).texts gs) (like_drop (columns_of r).texts fs gs h))

pub raw_fault : (r : SheetKind) (l : List ℕ) → first_that (line_table r (fields_of l)) ≡ first_that (line_table r (raw_of l))
raw_fault r l = like_line r (fields_of l) (raw_of l) (raw_like l)

-- ---- the import over raw fields

-- 12 over a table of jobs.
abbrev pub few : List JobRecord → ℕ
few js = first_that ((ltb 16 (length js) ⇒ 12) ∷ [])

-- ---- a line that passes

-- Numbers are the same fields.
numbers_same : (ms : List ℕ) (fs gs : List (List ℕ)) → LikeAll fs gs → length fs ≡ length ms → are_numbers ms fs ≡ true → fs ≡ gs
numbers_same [] [] [] h e n = refl
numbers_same [] [] (g ∷ gs) h e n = absurd h
numbers_same [] (f ∷ fs) gs h e n = absurd (omega arith)
numbers_same (m ∷ ms) [] gs h e n = absurd (true≢false (sym n))
numbers_same (m ∷ ms) (f ∷ fs) [] h e n = absurd h
numbers_same (m ∷ ms) (f ∷ fs) (g ∷ gs) h e n =
    let p = both (is_number m f) (are_numbers ms fs) n in
    let r = numbers_same ms fs gs h.1 (omega arith) p.1 in
    let q : f ≡ g = ⊎_elim (λ x. x) (λ w. absurd (true≢false (sym p.0 ∙ quote_29 m f w.0))) h.0 in
    cc

passed : (r : SheetKind) (fs : List (List ℕ)) → first_that (line_table r (some fs)) ≡ 0
    → (length fs ≡ (columns_of r).texts + 4) × (are_numbers (columns_of r).most (drop (columns_of r).texts fs) ≡ true)
passed r fs e =
    let c = clear (line_table r (some fs)) (tt, (tt, (tt, tt))) (sym e) in
    (eqb-true _ _ (not-false _ c.1.0), not-false _ c.1.1.0)

job_line_lem : (o p : Option (List (List ℕ))) → LikeRead o p → first_that (line_table Jobs o) ≡ 0 → Option.get_or o [] ≡ Option.get_or p []
job_line_lem none p h e = absurd (omega arith)
job_line_lem (some fs) none h e = absurd h
job_line_lem (some fs) (some gs) h e = let w = passed Jobs fs e in numbers_same (columns_of Jobs).most fs gs h w.0 w.1

-- SheetKind that are the same, or of which neither has a good part number.
abbrev LikePart : Part → Part → Type 0
LikePart d d' = (d ≡ d') ⊎ ((well_formed d.number ≡ false) × (well_formed d'.number ≡ false))

device_line : (o p : Option (List (List ℕ))) → LikeRead o p → first_that (line_table Devices o) ≡ 0
    → LikePart (part_in (Option.get_or o [])) (part_in (Option.get_or p []))
device_line none p h e = absurd (omega arith)
device_line (some fs) none h e = absurd h
device_line (some []) (some gs) h e = absurd (omega (arith, (passed Devices [] e).0))
device_line (some (f ∷ fs)) (some []) h e = absurd h
device_line (some (f ∷ fs)) (some (g ∷ gs)) h e =
    let w = passed Devices (f ∷ fs) e in
    let r = numbers_same (columns_of Devices).most fs gs h.1 (omega (arith, w.0)) w.1 in
    ⊎_elim (λ q. let a : f ∷ fs ≡ g ∷ gs = cc in inl (ap part_in a)) (λ q. inr (quote_21 f q.0, quote_21 g q.1)) h.0

-- ---- all lines

jobs_raw_lem : (ls : List (List ℕ)) → 0 ≡ lines_fault Jobs ls → map (λ l. job_in (fields_in l)) ls ≡ jobs_raw ls
jobs_raw_lem [] e = refl
jobs_raw_lem (l ∷ ls) e =
    let p = or_else_zero (line_fault Jobs l) (lines_fault Jobs ls) e in
    let a : job_in (fields_in l) ≡ job_in (raw_in l) = ap job_in (job_line_lem (fields_of l) (raw_of l) (raw_like l) (sym p.0)) in
    let b = jobs_raw_lem ls p.1 in
    cc

abbrev LikeTable : List Part → List Part → Type 0
LikeTable [] [] = Unit {0}
LikeTable [] (e ∷ es) = ⊥
LikeTable (d ∷ ds) [] = ⊥
LikeTable (d ∷ ds) (e ∷ es) = LikePart d e × LikeTable ds es

devices_raw_lem : (ls : List (List ℕ)) → 0 ≡ lines_fault Devices ls → LikeTable (map (λ l. part_in (fields_in l)) ls) (devices_raw ls)
devices_raw_lem [] e = tt
devices_raw_lem (l ∷ ls) e =
    let p = or_else_zero (line_fault Devices l) (lines_fault Devices ls) e in
    (device_line (fields_of l) (raw_of l) (raw_like l) (sym p.0), devices_raw_lem ls p.1)

table_length : (ds es : List Part) → LikeTable ds es → length (numbers ds) ≡ length (numbers es)
table_length [] [] h = refl
table_length [] (e ∷ es) h = absurd h
table_length (d ∷ ds) [] h = absurd h
table_length (d ∷ ds) (e ∷ es) h = ap suc (table_length ds es h.1)

like_formed : (ds es : List Part) → LikeTable ds es → all well_formed (numbers ds) ≡ all well_formed (numbers es)
like_formed [] [] h = refl
like_formed [] (e ∷ es) h = absurd h
like_formed (d ∷ ds) [] h = absurd h
like_formed (d ∷ ds) (e ∷ es) h =
    let q : well_formed d.number ≡ well_formed e.number = ⊎_elim (λ x. ap (λ (y : Part). well_formed y.number) x) (λ w. w.0 ∙ sym w.1) h.0 in
    rw (q, like_formed ds es h.1)

like_same : (ds es : List Part) → LikeTable ds es → all well_formed (numbers ds) ≡ true → ds ≡ es
like_same [] [] h w = refl
like_same [] (e ∷ es) h w = absurd h
like_same (d ∷ ds) [] h w = absurd h
like_same (d ∷ ds) (e ∷ es) h w =
    let p = both (well_formed d.number) (all well_formed (numbers ds)) w in
    let q : d ≡ e = ⊎_elim (λ x. x) (λ x. absurd (true≢false (sym p.0 ∙ x.0))) h.0 in
    let r = like_same ds es h.1 p.1 in
    cc

table_fault : (ds es : List Part) → LikeTable ds es → parts_fault ds ≡ parts_fault es
table_fault ds es h = go (all well_formed (numbers ds)) refl
  where
    always : (b : Bool) → b || true ≡ true
    always true = refl
    always false = refl

    go : (x : Bool) → all well_formed (numbers ds) ≡ x → parts_fault ds ≡ parts_fault es
    go true w = ap parts_fault (like_same ds es h w)
    go false w = rw (w, sym (like_formed ds es h) ∙ w, always (ltb 64 (length (numbers ds))), always (ltb 64 (length (numbers es))))

fit_formed : (ps : List Part) → unfit ps ≡ false → all well_formed (numbers ps) ≡ true
fit_formed ps h =
    let m = (neither (malformed (numbers ps)) (not (all whole ps)) h).0 in
    not-false _ (neither (ltb 64 (length (numbers ps))) (not (all well_formed (numbers ps))) m).1

or_same : (f r r' : ℕ) → (0 ≡ f → r ≡ r') → or_else f r ≡ or_else f r'
or_same zero r r' h = h refl
or_same (suc f) r r' h = rw (eqb-suc-zero f)

-- ---- the import

pub devices_raw_refused : (text : List ℕ) → devices_refused text ≡ or_else (lines_fault Devices (lines_of text)) (parts_fault (devices_raw (lines_of text)))
devices_raw_refused text =
    or_same (lines_fault Devices (lines_of text)) _ _ (λ e. table_fault (parts_in text) (devices_raw (lines_of text)) (devices_raw_lem (lines_of text) e))

pub devices_raw_in : (text : List ℕ) → devices_refused text ≡ 0 → parts_in text ≡ devices_raw (lines_of text)
devices_raw_in text e =
    let p = or_else_zero (lines_fault Devices (lines_of text)) (parts_fault (parts_in text)) (sym e) in
    let c = clear ((unfit (parts_in text) ⇒ 21) ∷ (repeated (numbers (parts_in text)) ⇒ 22) ∷ []) (tt, (tt, tt)) p.1 in
    like_same (parts_in text) (devices_raw (lines_of text)) (devices_raw_lem (lines_of text) p.0)
    (fit_formed (parts_in text) c.0)

pub jobs_raw_refused : (text : List ℕ) → jobs_refused text ≡ or_else (lines_fault Jobs (lines_of text)) (few (jobs_raw (lines_of text)))
jobs_raw_refused text = or_same (lines_fault Jobs (lines_of text)) _ _ (λ e. ap few (jobs_raw_lem (lines_of text) e))

pub jobs_raw_in : (text : List ℕ) → jobs_refused text ≡ 0 → jobs_in text ≡ jobs_raw (lines_of text)
jobs_raw_in text e = jobs_raw_lem (lines_of text) (or_else_zero (lines_fault Jobs (lines_of text)) (few (jobs_in text)) (sym e)).0

-- ---- the parts that are judged

like_formed_at : (ds es : List Part) → LikeTable ds es → (i : ℕ) → well_formed (get_or (numbers ds) i []) ≡ well_formed (get_or (numbers es) i [])
like_formed_at [] [] h i = refl
like_formed_at [] (e ∷ es) h i = absurd h
like_formed_at (d ∷ ds) [] h i = absurd h
like_formed_at (d ∷ ds) (e ∷ es) h zero = ⊎_elim (λ x. ap (λ (y : Part). well_formed y.number) x) (λ w. w.0 ∙ sym w.1) h.0
like_formed_at (d ∷ ds) (e ∷ es) h (suc i) = like_formed_at ds es h.1 i

whole_at : (ls : List (List ℕ)) (i : ℕ) → whole (get_or (map (λ l. part_in (fields_in l)) ls) i no_part) ≡ whole (get_or (devices_raw ls) i no_part)
whole_at [] i = refl
whole_at (l ∷ ls) zero = refl
whole_at (l ∷ ls) (suc i) = whole_at ls i

module _ (text : List ℕ) (e : lines_fault Devices (lines_of text) ≡ 0) where
  pub parts_unfit_at : (i : ℕ) → unfit_at (parts_in text) i ≡ unfit_at (devices_raw (lines_of text)) i
  parts_unfit_at i = rw (like_formed_at (parts_in text) (devices_raw (lines_of text)) (devices_raw_lem (lines_of text) (sym e)) i, whole_at (lines_of text) i)

  pub parts_same : unfit (devices_raw (lines_of text)) ≡ false → parts_in text ≡ devices_raw (lines_of text)
  parts_same u =
      let like = devices_raw_lem (lines_of text) (sym e) in
      like_same (parts_in text) (devices_raw (lines_of text)) like (like_formed (parts_in text) (devices_raw (lines_of text)) like ∙ fit_formed (devices_raw (lines_of text)) u)
