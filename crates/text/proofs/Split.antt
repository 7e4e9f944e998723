-- Laws of lines and fields: text that was joined comes apart as it was.
use mathlib.Core.Path.{◌≡◌, refl, ap, ◌∙◌}
use mathlib.Core.Bool.{false}
use mathlib.Core.List.{List, [], ◌∷◌, ◌++◌, map}
use mathlib.Core.Option.{Option, none, some}
use Prim.Native.Nat.{ℕ, ◌<◌}
use native.Mathlib.Omega.{arith}
use lib.Dec.{eqb}
use borrow.Author.Tests.{ne_eqb}
use Rattle.base.proofs.Every.{Every, every_append}
use Rattle.text.specs.declared.State.TheVariants.{Fresh, Plain, Quoted}
use Rattle.text.specs.Grammar.{cr, lf, comma, quote, onto, lines_of, text_of, goes, step, kept, then, fields_from}
use Rattle.text.specs.Numerals.{digits_of, numbers_text}
use Rattle.text.proofs.Decimal.{all_digits, Ordinary, digits_ordinary}

other : (b c : ℕ) → c < 48 → Ordinary b → eqb b c ≡ false
other b c h k = ne_eqb b c (λ (e : b ≡ c). absurd (omega (arith, k)))

-- ---- lines

-- No CR in it.
abbrev pub Unbroken : List ℕ → Type 0
Unbroken = Every (λ b. eqb b cr ≡ false)

pub lines_on : (b : ℕ) (s : List ℕ) → eqb b cr ≡ false → lines_of (b ∷ s) ≡ onto b (lines_of s)
unfolding lines_of
lines_on b [] e = refl
lines_on b (c ∷ s) e = rw e

pub lines_more : (l s : List ℕ) → Unbroken l → lines_of (l ++ cr ∷ lf ∷ s) ≡ l ∷ lines_of s
unfolding lines_of
lines_more [] s h = refl
lines_more (b ∷ l) s h = lines_on b (l ++ cr ∷ lf ∷ s) h.0 ∙ ap (onto b) (lines_more l s h.1)

pub lines_text : (ls : List (List ℕ)) → Every Unbroken ls → lines_of (text_of ls) ≡ ls
unfolding lines_of
lines_text [] h = refl
lines_text (l ∷ ls) h = lines_more l (text_of ls) h.0 ∙ ap {B = List (List ℕ)} (λ x. l ∷ x) (lines_text ls h.1)

pub ordinary_unbroken : (s : List ℕ) → Every Ordinary s → Unbroken s
ordinary_unbroken [] h = tt
ordinary_unbroken (b ∷ s) h = (other b 13 (omega arith) h.0, ordinary_unbroken s h.1)

-- ---- fields

pub kept_then : (t f : List ℕ) (o : Option (List (List ℕ))) → kept t (then f o) ≡ then (t ++ f) o
kept_then t f none = refl
kept_then t f (some fs) = refl

module _ (two : List ℕ) where
  step_plain : (b : ℕ) → Ordinary b → step two Plain b ≡ goes Plain (b ∷ [])
  unfolding step
  step_plain b h = rw (other b 44 (omega arith) h, other b 34 (omega arith) h)

  step_fresh : (b : ℕ) → Ordinary b → step two Fresh b ≡ goes Plain (b ∷ [])
  unfolding step
  step_fresh b h = rw (other b 44 (omega arith) h, other b 34 (omega arith) h)

  step_quoted : (b : ℕ) → Ordinary b → step two Quoted b ≡ goes Quoted (b ∷ [])
  unfolding step
  step_quoted b h = rw (other b 34 (omega arith) h)

  -- A field of ordinary bytes, and more fields behind a comma; and the last field.
  plain_more : (f s : List ℕ) → Every Ordinary f → fields_from two Plain (f ++ comma ∷ s) ≡ then f (fields_from two Fresh s)
  unfolding fields_from step
  plain_more [] s h = refl
  plain_more (b ∷ f) s h =
      rw (step_plain b h.0, plain_more f s h.1) (kept_then (b ∷ []) f (fields_from two Fresh s))

  plain_last : (f : List ℕ) → Every Ordinary f → fields_from two Plain f ≡ some (f ∷ [])
  unfolding fields_from step
  plain_last [] h = refl
  plain_last (b ∷ f) h = rw (step_plain b h.0, plain_last f h.1)

  pub field_more : (f s : List ℕ) → Every Ordinary f → fields_from two Fresh (f ++ comma ∷ s) ≡ then f (fields_from two Fresh s)
  unfolding fields_from step
  field_more [] s h = refl
  field_more (b ∷ f) s h =
      rw (step_fresh b h.0, plain_more f s h.1) (kept_then (b ∷ []) f (fields_from two Fresh s))

  pub field_last : (f : List ℕ) → Every Ordinary f → fields_from two Fresh f ≡ some (f ∷ [])
  unfolding fields_from step
  field_last [] h = refl
  field_last (b ∷ f) h = rw (step_fresh b h.0, plain_last f h.1)

  -- A quoted field of ordinary bytes, and more fields.
  inner_more : (f s : List ℕ) → Every Ordinary f → fields_from two Quoted (f ++ quote ∷ comma ∷ s) ≡ then f (fields_from two Fresh s)
  unfolding fields_from step
  inner_more [] s h = kept_then [] [] (fields_from two Fresh s)
  inner_more (b ∷ f) s h =
      rw (step_quoted b h.0, inner_more f s h.1) (kept_then (b ∷ []) f (fields_from two Fresh s))

  pub quoted_more : (f s : List ℕ) → Every Ordinary f → fields_from two Fresh (quote ∷ f ++ quote ∷ comma ∷ s) ≡ then f (fields_from two Fresh s)
  unfolding fields_from step
  quoted_more f s h = rw (inner_more f s h) (kept_then [] f (fields_from two Fresh s))

-- ---- numbers in a line

-- It has at most five digits.
abbrev pub Small : ℕ → Type 0
Small n = n < 100000

small_ordinary : (n : ℕ) → Small n → Every Ordinary (digits_of n)
small_ordinary n h = digits_ordinary (digits_of n) (all_digits 4 n h)

pub numbers_fields : (two : List ℕ) (n : ℕ) (ns : List ℕ) → Small n → Every Small ns
    → fields_from two Fresh (numbers_text (n ∷ ns)) ≡ some (map digits_of (n ∷ ns))
numbers_fields two n [] h k = field_last two (digits_of n) (small_ordinary n h)
numbers_fields two n (m ∷ ns) h k =
    field_more two (digits_of n) (numbers_text (m ∷ ns)) (small_ordinary n h) ∙ ap (then (digits_of n)) (numbers_fields two m ns k.0 k.1)

pub numbers_unbroken : (n : ℕ) (ns : List ℕ) → Small n → Every Small ns → Unbroken (numbers_text (n ∷ ns))
numbers_unbroken n [] h k = ordinary_unbroken (digits_of n) (small_ordinary n h)
numbers_unbroken n (m ∷ ns) h k =
    every_append (λ b. eqb b cr ≡ false) (digits_of n) (comma ∷ numbers_text (m ∷ ns)) (ordinary_unbroken (digits_of n) (small_ordinary n h))
    (refl, numbers_unbroken m ns k.0 k.1)
