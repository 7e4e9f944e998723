-- Lines and numbers by places are those of the definitions.
use mathlib.Core.Path.{◌≡◌, refl, sym, ap, ◌∙◌}
use mathlib.Core.Bool.{Bool, true, false, cond, ◌&&◌}
use mathlib.Core.List.{List, [], ◌∷◌}
use Rattle.std.specs.Prelude.{Some, None}
use Prim.Native.Nat.{ℕ, zero, suc, ◌+◌, ◌-◌, ◌*◌, ◌<◌, ◌≤◌}
use native.Mathlib.Omega.{arith}
use native.Mathlib.Numerals.{add-one}
use lib.ListN.{length, take, drop, get_or, length-drop, drop_of_length-le}
use lib.Seq.{drop-cons, drop-length, drop-drop, get_or-drop}
use lib.Dec.{eqb, leb, ltb}
use borrow.Author.Tests.{leb-true, leb-false, le-leb, lt-leb, lt-ltb, le-ltb, ltb-true, ltb-false}
use Rattle.base.proofs.Cases.{cond_cases, test_cases, both, and_right}
use Rattle.base.proofs.Pieces.{part_rest}
use Rattle.base.specs.Lists.{all}
use Rattle.text.specs.Grammar.{cr, lf, onto, lines_of}
use Rattle.text.specs.Numerals.{digit, value_from, value_of, is_number}
use Rattle.text.specs.inside.Cursors.{breaks_at, line_length, next_line, number_from, number_of, fits}

-- ---- lines

-- The first line of a text that is not empty, and the others behind its CR LF.
pub line_cut : (b : ℕ) (s : List ℕ) → lines_of (b ∷ s) ≡ take (line_length (b ∷ s)) (b ∷ s) ∷ lines_of (drop (line_length (b ∷ s) + 2) (b ∷ s))
unfolding lines_of line_length
line_cut b [] = refl
line_cut b (c ∷ s) = go (eqb b cr && eqb c lf) (line_cut c s)
  where
    go : (x : Bool) → lines_of (c ∷ s) ≡ take (line_length (c ∷ s)) (c ∷ s) ∷ lines_of (drop (line_length (c ∷ s) + 2) (c ∷ s))
        → cond x ([] ∷ lines_of s) (onto b (lines_of (c ∷ s)))
        ≡ take (cond x 0 (suc (line_length (c ∷ s)))) (b ∷ c ∷ s) ∷ lines_of (drop (cond x 0 (suc (line_length (c ∷ s))) + 2) (b ∷ c ∷ s))
    go true h = refl
    go false h = let e : suc (line_length (c ∷ s)) + 2 ≡ suc (line_length (c ∷ s) + 2) = omega arith in rw (e, h)

pub line_within : (s : List ℕ) → line_length s ≤ length s
unfolding line_length
line_within [] = omega arith
line_within (b ∷ []) = omega arith
line_within (b ∷ c ∷ s) = go (eqb b cr && eqb c lf) (line_within (c ∷ s))
  where
    go : (x : Bool) → line_length (c ∷ s) ≤ suc (length s) → cond x 0 (suc (line_length (c ∷ s))) ≤ suc (suc (length s))
    go true h = omega arith
    go false h = omega arith

-- The first line ends at a place, or goes on.
line_byte : (s : List ℕ) → 0 < length s → line_length s ≡ cond (breaks_at s 0) 0 (suc (line_length (drop 1 s)))
unfolding line_length
line_byte [] h = absurd (omega arith)
line_byte (b ∷ []) h = go (eqb b cr)
  where
    go : (x : Bool) → ◌≡◌ {A = ℕ} 1 (cond (x && false) 0 1)
    go true = refl
    go false = refl
line_byte (b ∷ c ∷ s) h = refl

module _ (s : List ℕ) (i : ℕ) (h : i < length s) where
  line_from : line_length (drop i s) ≡ cond (breaks_at s i) 0 (suc (line_length (drop (i + 1) s)))
  line_from =
      let a : get_or (drop i s) 0 0 ≡ get_or s i 0 = get_or-drop i s 0 0 ∙ ap (λ (x : ℕ). get_or s x 0) (omega arith) in
      let b : get_or (drop i s) (0 + 1) 0 ≡ get_or s (i + 1) 0 = get_or-drop i s (0 + 1) 0 ∙ ap (λ (x : ℕ). get_or s x 0) (omega arith) in
      let c : drop 1 (drop i s) ≡ drop (i + 1) s = drop-drop 1 i s in
      line_byte (drop i s) (rw length-drop (omega arith)) ∙ rw (a, b, c)

  pub line_stops : breaks_at s i ≡ true → line_length (drop i s) ≡ 0
  line_stops e = line_from ∙ rw e

  pub line_goes : breaks_at s i ≡ false → line_length (drop i s) ≡ suc (line_length (drop (i + 1) s))
  line_goes e = line_from ∙ rw e

pub line_done : (s : List ℕ) (i : ℕ) → i ≡ length s → line_length (drop i s) ≡ 0
unfolding line_length
line_done s i e = rw (e, drop-length)

-- The place behind a line's CR LF; of the last line, its end.
module _ (s : List ℕ) (r : ℕ) (e : r ≡ line_length s) where
  pub next_behind : r < length s → r + 2 ≡ next_line s
  next_behind h = rw (← e, lt-ltb r (length s) h)

  pub next_none : length s ≤ r → r ≡ next_line s
  next_none h = rw (← e, le-ltb r (length s) h)

-- A line that ends before the text does has its CR LF behind it.
line_broken : (s : List ℕ) → line_length s < length s → line_length s + 2 ≤ length s
unfolding line_length
line_broken [] h = absurd (omega arith)
line_broken (b ∷ []) h = absurd (omega arith)
line_broken (b ∷ c ∷ s) h = go (eqb b cr && eqb c lf) h (line_broken (c ∷ s))
  where
    go : (x : Bool) → cond x 0 (suc (line_length (c ∷ s))) < suc (suc (length s)) → (line_length (c ∷ s) < suc (length s) → line_length (c ∷ s) + 2 ≤ suc (length s))
        → cond x 0 (suc (line_length (c ∷ s))) + 2 ≤ suc (suc (length s))
    go true h rest = omega arith
    go false h rest = omega (arith, rest (omega arith))

pub next_within : (s : List ℕ) → next_line s ≤ length s
next_within s =
    cond_cases (λ (n : ℕ). n ≤ length s) (ltb (line_length s) (length s)) (λ e. line_broken s (ltb-true (line_length s) (length s) e)) (λ e. line_within s)

-- From a place on, as a part of a slice has it: where the line ends, and where the next one begins.
module _ (s : List ℕ) (at n : ℕ) where
  pub line_ends : at ≤ length s → n ≡ line_length (take (length s - at) (drop at s)) → (n ≡ line_length (drop at s)) × (at + n ≤ length s)
  line_ends h e =
      let end = e ∙ ap line_length (part_rest s at) in
      (end, omega (arith, end, line_within (drop at s), length-drop at s))

next_drop : (s : List ℕ) → drop (next_line s) s ≡ drop (line_length s + 2) s
next_drop s =
    cond_cases (λ (n : ℕ). drop n s ≡ drop (line_length s + 2) s) (ltb (line_length s) (length s)) (λ e. refl)
    (λ e. let h = ltb-false (line_length s) (length s) e in
    drop_of_length-le s {i = line_length s} h ∙ sym (drop_of_length-le s {i = line_length s + 2} (omega arith)))

pub next_some : (s : List ℕ) → 0 < length s → 0 < next_line s
next_some s h =
    cond_cases (λ (n : ℕ). 0 < n) (ltb (line_length s) (length s)) (λ e. omega arith) (λ e. omega (arith, ltb-false (line_length s) (length s) e))

pub line_begins : (s : List ℕ) (at n : ℕ) → at < length s → n ≡ next_line (take (length s - at) (drop at s))
    → (n ≡ next_line (drop at s)) × (0 < n) × (at + n ≤ length s)
line_begins s at n h e =
    let next = e ∙ ap next_line (part_rest s at) in
    let long = length-drop at s in
    (next, omega (arith, next, next_some (drop at s) (omega arith)), omega (arith, next, next_within (drop at s)))

-- The first line, and those from the next one on.
pub line_first : (s : List ℕ) → 0 < length s → lines_of s ≡ take (line_length s) s ∷ lines_of (drop (next_line s) s)
line_first [] h = absurd (omega arith)
line_first (b ∷ s) h = line_cut b s ∙ rw (next_drop (b ∷ s))

lines_none : lines_of [] ≡ []
unfolding lines_of
lines_none = refl

pub lines_past : (s : List ℕ) (i : ℕ) → i ≡ length s → lines_of (drop i s) ≡ []
lines_past s i e = rw (e, drop-length) lines_none

pub line_zero : (s : List ℕ) → get_or (lines_of s) 0 [] ≡ take (line_length s) s
unfolding lines_of line_length
line_zero [] = refl
line_zero (b ∷ s) = ap (λ (ls : List (List ℕ)). get_or ls 0 []) (line_first (b ∷ s) (omega arith))

drop_none : (n : ℕ) → drop {A = ℕ} n [] ≡ []
drop_none zero = refl
drop_none (suc n) = refl

line_past : (j : ℕ) → get_or (lines_of []) j [] ≡ []
unfolding lines_of
line_past zero = refl
line_past (suc j) = refl

pub line_later : (s : List ℕ) (j : ℕ) → get_or (lines_of s) (suc j) [] ≡ get_or (lines_of (drop (next_line s) s)) j []
line_later [] j = line_past (suc j) ∙ sym (ap (λ (l : List ℕ). get_or (lines_of l) j []) (drop_none (next_line [])) ∙ line_past j)
line_later (b ∷ s) j = ap (λ (ls : List (List ℕ)). get_or ls (suc j) []) (line_first (b ∷ s) (omega arith))

-- ---- numbers

-- Digit by digit: a value never falls, so that one above 16 bits stays above.
value_grows : (v : ℕ) (s : List ℕ) → v ≤ value_from v s
unfolding value_from
value_grows v [] = omega arith
value_grows v (b ∷ s) = omega (arith, value_grows (v * 10 + (b - 48)) s)

pub digit_is : (b : ℕ) → 48 ≤ b → b ≤ 57 → digit b ≡ true
digit_is b h k = rw (le-leb 48 b h, le-leb b 57 k)

module _ (f : List ℕ) (v i : ℕ) where
  pub number_next : i < length f → digit (get_or f i 0) ≡ true → number_from v (drop i f) ≡ number_from (v * 10 + (get_or f i 0 - 48)) (drop (i + 1) f)
  unfolding value_from
  number_next h e = rw (drop-cons f i 0 h, add-one i, e)

  pub number_above : i < length f → digit (get_or f i 0) ≡ true → 65535 < v * 10 + (get_or f i 0 - 48) → number_from v (drop i f) ≡ None
  number_above h e k =
      number_next h e ∙ over (drop (i + 1) f)
    where
      over : (s : List ℕ) → number_from (v * 10 + (get_or f i 0 - 48)) s ≡ None
      over s =
          let far : leb (value_from (v * 10 + (get_or f i 0 - 48)) s) 65535 ≡ false = lt-leb _ 65535 (omega (arith, value_grows (v * 10 + (get_or f i 0 - 48)) s)) in
          rw (far, and_right (all digit s) refl)

  pub number_done : i ≡ length f → v < 65536 → number_from v (drop i f) ≡ Some v
  unfolding value_from
  number_done e k = rw (e, drop-length, le-leb v 65535 (omega arith))

-- So a field is a number of at most m where it has one of 16 bits that is; and that is its value.
pub number_test : (m : ℕ) (f : List ℕ) → m < 65536 → fits m (number_of f) ≡ is_number m f
number_test m f h = go (ltb 0 (length f)) (all digit f) (value_of f)
  where
    go : (x y : Bool) (v : ℕ) → fits m (cond x (cond (y && leb v 65535) (Some v) None) None) ≡ x && (y && leb v m)
    go true true v = test_cases (λ b. leb v 65535 ≡ b → fits m (cond b (Some v) None) ≡ leb v m) (leb v 65535) (λ _ e. refl) (λ _ e. sym (lt-leb v m (omega (arith, leb-false v 65535 e)))) refl
    go true false v = refl
    go false y v = refl

pub number_value : (m : ℕ) (f : List ℕ) → m < 65536 → is_number m f ≡ true → number_of f ≡ Some (value_of f)
number_value m f h e =
    let p = both (ltb 0 (length f)) (all digit f && leb (value_of f) m) e in
    let q = both (all digit f) (leb (value_of f) m) p.1 in
    rw (p.0, q.0, le-leb (value_of f) 65535 (omega (arith, leb-true (value_of f) m q.1)))
