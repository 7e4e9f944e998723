-- The fields of a line by places are those of the definitions, two quotes left as they stand.
use mathlib.Core.Path.{◌≡◌, refl, sym, ap, subst, ◌∙◌}
use mathlib.Core.Bool.{Bool, true, false, cond, true≢false}
use mathlib.Core.List.{List, [], ◌∷◌, ◌++◌}
use Rattle.std.specs.Prelude.{Some, None}
use mathlib.Core.Option
use mathlib.Core.Option.{Option, none, some}
use Prim.Native.Nat.{ℕ, zero, suc, ◌+◌, ◌-◌, ◌<◌, ◌≤◌}
use native.Mathlib.Omega.{arith}
use native.Mathlib.Numerals.{add-one}
use native.Mathlib.Decide.{dec_lt}
use lib.ListN.{length, take, drop, get_or, length-drop}
use lib.Seq.{drop-cons, drop-length, drop-drop, take-nil}
use lib.Dec.{eqb}
use borrow.Author.Tests.{eqb-true, eq-eqb, ne_eqb}
use Rattle.base.proofs.Cases.{test_cases}
use Rattle.base.proofs.Numbers.{length_nil}
use Rattle.base.proofs.Pieces.{part_rest}
use Rattle.text.specs.declared.State.{State}
use Rattle.text.specs.declared.State.TheVariants.{Fresh, Plain, Quoted, Closed}
use Rattle.text.specs.Grammar.{comma, quote, Step, stray, ends, goes, step, kept, then, after, fields_from, unread}
use Rattle.text.specs.declared.Turn.TheVariants.{Stray, Ends, Goes}
use Rattle.text.specs.inside.Cursors.{Cut, raw, raw_of, turn_of, is_over, onward, cut_from, cut_of, told, starts_quoted, first_field, counted, field_at}
use Rattle.text.proofs.Split.{kept_then}

-- ---- byte by byte

-- What a byte does, by the byte.
chosen : (x y : Bool) (a b c : Step) → cond x (turn_of a) (cond y (turn_of b) (turn_of c)) ≡ turn_of (cond x a (cond y b c))
chosen true y a b c = refl
chosen false true a b c = refl
chosen false false a b c = refl

pub turn_fresh : (b : ℕ) → cond (eqb b comma) Ends (cond (eqb b quote) (Goes Quoted) (Goes Plain)) ≡ turn_of (step raw Fresh b)
unfolding step
turn_fresh b = chosen (eqb b comma) (eqb b quote) ends (goes Quoted []) (goes Plain (b ∷ []))

pub turn_plain : (b : ℕ) → cond (eqb b comma) Ends (cond (eqb b quote) Stray (Goes Plain)) ≡ turn_of (step raw Plain b)
unfolding step
turn_plain b = chosen (eqb b comma) (eqb b quote) ends stray (goes Plain (b ∷ []))

pub turn_closed : (b : ℕ) → cond (eqb b comma) Ends (cond (eqb b quote) (Goes Quoted) Stray) ≡ turn_of (step raw Closed b)
unfolding step
turn_closed b = chosen (eqb b comma) (eqb b quote) ends (goes Quoted raw) stray

-- Between quotes a comma is a byte like others.
pub turn_quoted : (b : ℕ) → cond (eqb b comma) (Goes Quoted) (cond (eqb b quote) (Goes Closed) (Goes Quoted)) ≡ turn_of (step raw Quoted b)
unfolding step
turn_quoted b = go (eqb b comma) refl (eqb b quote) refl
  where
    go : (x : Bool) → eqb b comma ≡ x → (y : Bool) → eqb b quote ≡ y
        → cond x (Goes Quoted) (cond y (Goes Closed) (Goes Quoted)) ≡ turn_of (cond y (goes Closed []) (goes Quoted (b ∷ [])))
    go true e true f = absurd (omega (arith, eqb-true b comma e, eqb-true b quote f))
    go true e false f = refl
    go false e true f = refl
    go false e false f = refl

-- So far does the field reach where the byte at hand is stray, ends it, or goes on.
pub record Reaches (c : Cut) (n : ℕ) (b : Bool) : Type 0 where
  pub size : c.size ≡ n
  pub whole : c.whole ≡ b

pub told_stray : (c : Cut) (n : ℕ) → Reaches c n false → None ≡ told c
told_stray c n r = rw r.whole

pub told_whole : (c : Cut) (n : ℕ) → Reaches c n true → Some n ≡ told c
told_whole c n r = rw (r.whole, r.size)

-- From what is known so far, and what the bytes from here on say.
pub further : (s : List ℕ) (i : ℕ) (q : State) (m to : ℕ) {b : Bool} → Reaches (cut_of s) (i + (cut_from q (drop i s)).size) (cut_from q (drop i s)).whole
    → Reaches (cut_from q (drop i s)) m b → i + m ≡ to → Reaches (cut_of s) to b
further s i q m to r t e = record { size = omega (arith, r.size, t.size); whole = r.whole ∙ t.whole }

module _ (q : State) (s : List ℕ) (i : ℕ) (h : i < length s) where
  pub cut_stray : turn_of (step raw q (get_or s i 0)) ≡ Stray → Reaches (cut_from q (drop i s)) 0 false
  unfolding cut_from
  cut_stray e = rw (drop-cons s i 0 h) (go (step raw q (get_or s i 0)) e)
    where
      go : (d : Step) → turn_of d ≡ Stray → Reaches (onward d (λ r. cut_from r (drop (suc i) s))) 0 false
      go stray e = record { size = refl; whole = refl }
      go ends e = let z : ◌≡◌ {A = ℕ} 0 1 = cc in absurd (omega arith)
      go (goes r t) e = let z : ◌≡◌ {A = ℕ} 0 1 = cc in absurd (omega arith)

  pub cut_ends : turn_of (step raw q (get_or s i 0)) ≡ Ends → Reaches (cut_from q (drop i s)) 0 true
  unfolding cut_from
  cut_ends e = rw (drop-cons s i 0 h) (go (step raw q (get_or s i 0)) e)
    where
      go : (d : Step) → turn_of d ≡ Ends → Reaches (onward d (λ r. cut_from r (drop (suc i) s))) 0 true
      go stray e = let z : ◌≡◌ {A = ℕ} 0 1 = cc in absurd (omega arith)
      go ends e = record { size = refl; whole = refl }
      go (goes r t) e = let z : ◌≡◌ {A = ℕ} 0 1 = cc in absurd (omega arith)

  pub cut_goes : (r : State) → turn_of (step raw q (get_or s i 0)) ≡ Goes r
      → Reaches (cut_from q (drop i s)) (suc (cut_from r (drop (i + 1) s)).size) (cut_from r (drop (i + 1) s)).whole
  unfolding cut_from
  cut_goes r e = rw (drop-cons s i 0 h, add-one i) (go (step raw q (get_or s i 0)) e)
    where
      go : (d : Step) → turn_of d ≡ Goes r
          → Reaches (onward d (λ r. cut_from r (drop (suc i) s))) (suc (cut_from r (drop (suc i) s)).size) (cut_from r (drop (suc i) s)).whole
      go stray e = let z : ◌≡◌ {A = ℕ} 0 1 = cc in absurd (omega arith)
      go ends e = let z : ◌≡◌ {A = ℕ} 0 1 = cc in absurd (omega arith)
      go (goes r' t) e = let f : r' ≡ r = cc in rw f (record { size = refl; whole = refl })

pub cut_end : (q : State) (s : List ℕ) (i : ℕ) → i ≡ length s → Reaches (cut_from q (drop i s)) 0 (is_over q)
unfolding cut_from
cut_end q s i e = rw (e, drop-length) (record { size = refl; whole = refl })

-- ---- field by field

-- A field with what stands behind it: nothing, or a comma and more fields.
abbrev pub behind : List ℕ → List ℕ → Option (List (List ℕ))
behind f [] = some (f ∷ [])
behind f (b ∷ s) = then f (fields_from (quote ∷ quote ∷ []) Fresh s)

-- None where a quote is stray or open.
abbrev pub found : Bool → List ℕ → List ℕ → Option (List (List ℕ))
found false f s = none
found true f s = behind f s

kept_behind : (t f s : List ℕ) → kept t (behind f s) ≡ behind (t ++ f) s
kept_behind t f [] = refl
kept_behind t f (b ∷ s) = kept_then t f (fields_from (quote ∷ quote ∷ []) Fresh s)

kept_found : (o : Bool) (t f s : List ℕ) → kept t (found o f s) ≡ found o (t ++ f) s
kept_found false t f s = refl
kept_found true t f s = kept_behind t f s

plain_cut : (s : List ℕ) → fields_from raw Plain s ≡ found (cut_from Plain s).whole (take (cut_from Plain s).size s) (drop (cut_from Plain s).size s)
unfolding fields_from step cut_from
plain_cut [] = refl
plain_cut (b ∷ s) = go (eqb b comma) (eqb b quote) (plain_cut s)
  where
    go : (x y : Bool)
        → fields_from raw Plain s ≡ found (cut_from Plain s).whole (take (cut_from Plain s).size s) (drop (cut_from Plain s).size s)
        → after (cond x ends (cond y stray (goes Plain (b ∷ [])))) (λ r. fields_from raw r s)
        ≡ found (onward (cond x ends (cond y stray (goes Plain (b ∷ [])))) (λ r. cut_from r s)).whole
        (take (onward (cond x ends (cond y stray (goes Plain (b ∷ [])))) (λ r. cut_from r s)).size (b ∷ s))
        (drop (onward (cond x ends (cond y stray (goes Plain (b ∷ [])))) (λ r. cut_from r s)).size (b ∷ s))
    go true y h = refl
    go false true h = refl
    go false false h = ap (kept (b ∷ [])) h ∙ kept_found (cut_from Plain s).whole (b ∷ []) (take (cut_from Plain s).size s) (drop (cut_from Plain s).size s)

-- A field without quotes: it is the bytes before the comma or the line's end.
pub field_plain : (b : ℕ) (s : List ℕ) → eqb b quote ≡ false
    → fields_from raw Fresh (b ∷ s)
    ≡ found (cut_from Fresh (b ∷ s)).whole (take (cut_from Fresh (b ∷ s)).size (b ∷ s)) (drop (cut_from Fresh (b ∷ s)).size (b ∷ s))
unfolding fields_from step cut_from
field_plain b s e = go (eqb b comma) (eqb b quote) e (plain_cut s)
  where
    go : (x y : Bool) → y ≡ false
        → fields_from raw Plain s ≡ found (cut_from Plain s).whole (take (cut_from Plain s).size s) (drop (cut_from Plain s).size s)
        → after (cond x ends (cond y (goes Quoted []) (goes Plain (b ∷ [])))) (λ r. fields_from raw r s)
        ≡ found (onward (cond x ends (cond y (goes Quoted []) (goes Plain (b ∷ [])))) (λ r. cut_from r s)).whole
        (take (onward (cond x ends (cond y (goes Quoted []) (goes Plain (b ∷ [])))) (λ r. cut_from r s)).size (b ∷ s))
        (drop (onward (cond x ends (cond y (goes Quoted []) (goes Plain (b ∷ [])))) (λ r. cut_from r s)).size (b ∷ s))
    go true y e h = refl
    go false true e h = absurd (true≢false e)
    go false false e h = ap (kept (b ∷ [])) h ∙ kept_found (cut_from Plain s).whole (b ∷ []) (take (cut_from Plain s).size s) (drop (cut_from Plain s).size s)

-- ---- between quotes

-- One byte more at the front: between quotes a field that ends at once is open, so that what it holds does not count.
one_more : (b : ℕ) (s g : List ℕ)
    → found (cut_from Quoted s).whole (b ∷ take ((cut_from Quoted s).size - 1) s) g ≡ found (cut_from Quoted s).whole (take (cut_from Quoted s).size (b ∷ s)) g
unfolding cut_from step
one_more b [] g = refl
one_more b (c ∷ s) g = go (eqb c quote)
  where
    shift : (m : ℕ) (o : Bool) → found o (b ∷ take (suc m - 1) (c ∷ s)) g ≡ found o (take (suc m) (b ∷ c ∷ s)) g
    shift m o = let e : suc m - 1 ≡ m = omega arith in rw e

    go : (y : Bool) → found (onward (cond y (goes Closed []) (goes Quoted (c ∷ []))) (λ r. cut_from r s)).whole
        (b ∷ take ((onward (cond y (goes Closed []) (goes Quoted (c ∷ []))) (λ r. cut_from r s)).size - 1) (c ∷ s)) g
        ≡ found (onward (cond y (goes Closed []) (goes Quoted (c ∷ []))) (λ r. cut_from r s)).whole
        (take (onward (cond y (goes Closed []) (goes Quoted (c ∷ []))) (λ r. cut_from r s)).size (b ∷ c ∷ s)) g
    go true = shift (cut_from Closed s).size (cut_from Closed s).whole
    go false = shift (cut_from Quoted s).size (cut_from Quoted s).whole

-- Open, the field is what stands before the last byte; behind a quote that may close it, the bytes from that quote on but the last.
abbrev InQuotes : List ℕ → Type 0
InQuotes s = fields_from raw Quoted s ≡ found (cut_from Quoted s).whole (take ((cut_from Quoted s).size - 1) s) (drop (cut_from Quoted s).size s)

abbrev AtQuote : List ℕ → Type 0
AtQuote s = fields_from raw Closed s ≡ found (cut_from Closed s).whole (take (cut_from Closed s).size (quote ∷ s)) (drop (cut_from Closed s).size s)

in_quotes : (b : ℕ) (s : List ℕ) → InQuotes s → AtQuote s → InQuotes (b ∷ s)
unfolding fields_from step cut_from
in_quotes b s h k = go (eqb b quote) refl
  where
    go : (y : Bool) → eqb b quote ≡ y
        → after (cond y (goes Closed []) (goes Quoted (b ∷ []))) (λ r. fields_from raw r s)
        ≡ found (onward (cond y (goes Closed []) (goes Quoted (b ∷ []))) (λ r. cut_from r s)).whole
        (take ((onward (cond y (goes Closed []) (goes Quoted (b ∷ []))) (λ r. cut_from r s)).size - 1) (b ∷ s))
        (drop (onward (cond y (goes Closed []) (goes Quoted (b ∷ []))) (λ r. cut_from r s)).size (b ∷ s))
    go true q =
        let e : suc (cut_from Closed s).size - 1 ≡ (cut_from Closed s).size = omega arith in
        ap (kept []) k ∙ kept_found (cut_from Closed s).whole [] (take (cut_from Closed s).size (quote ∷ s)) (drop (cut_from Closed s).size s)
        ∙ rw (e, eqb-true b quote q)
    go false q =
        let e : suc (cut_from Quoted s).size - 1 ≡ (cut_from Quoted s).size = omega arith in
        ap (kept (b ∷ [])) h ∙ kept_found (cut_from Quoted s).whole (b ∷ []) (take ((cut_from Quoted s).size - 1) s) (drop (cut_from Quoted s).size s)
        ∙ one_more b s (drop (cut_from Quoted s).size s) ∙ rw e

at_quote : (b : ℕ) (s : List ℕ) → InQuotes s → AtQuote (b ∷ s)
unfolding fields_from step cut_from
at_quote b s h = go (eqb b comma) (eqb b quote) refl
  where
    go : (x y : Bool) → eqb b quote ≡ y
        → after (cond x ends (cond y (goes Quoted raw) stray)) (λ r. fields_from raw r s)
        ≡ found (onward (cond x ends (cond y (goes Quoted raw) stray)) (λ r. cut_from r s)).whole
        (take (onward (cond x ends (cond y (goes Quoted raw) stray)) (λ r. cut_from r s)).size (quote ∷ b ∷ s))
        (drop (onward (cond x ends (cond y (goes Quoted raw) stray)) (λ r. cut_from r s)).size (b ∷ s))
    go true y q = refl
    go false true q =
        ap (kept raw) h ∙ kept_found (cut_from Quoted s).whole raw (take ((cut_from Quoted s).size - 1) s) (drop (cut_from Quoted s).size s)
        ∙ sym (kept_found (cut_from Quoted s).whole (quote ∷ []) (quote ∷ take ((cut_from Quoted s).size - 1) s) (drop (cut_from Quoted s).size s))
        ∙ ap (kept (quote ∷ [])) (one_more quote s (drop (cut_from Quoted s).size s))
        ∙ kept_found (cut_from Quoted s).whole (quote ∷ []) (take (cut_from Quoted s).size (quote ∷ s)) (drop (cut_from Quoted s).size s)
        ∙ rw (eqb-true b quote q)
    go false false q = refl

quotes_cut : (s : List ℕ) → InQuotes s × AtQuote s
unfolding fields_from step cut_from
quotes_cut [] = (refl, refl)
quotes_cut (b ∷ s) = let w = quotes_cut s in (in_quotes b s w.0 w.1, at_quote b s w.0)

-- A field in quotes: it is what stands between the first and the last of its bytes.
pub field_quoted : (s : List ℕ)
    → fields_from raw Fresh (quote ∷ s) ≡ found (cut_from Quoted s).whole (take ((cut_from Quoted s).size - 1) s) (drop (cut_from Quoted s).size s)
unfolding fields_from step
field_quoted s =
    ap (kept []) (quotes_cut s).0 ∙ kept_found (cut_from Quoted s).whole [] (take ((cut_from Quoted s).size - 1) s) (drop (cut_from Quoted s).size s)

pub field_none : fields_from raw Fresh [] ≡ some ([] ∷ [])
unfolding fields_from
field_none = refl

-- ---- the first field of what is left of a line, and the fields behind it

abbrev FirstCut : List ℕ → Type 0
FirstCut s = raw_of s ≡ found (cut_of s).whole (first_field s) (drop (cut_of s).size s)

first_plain : (b : ℕ) (s : List ℕ) → eqb b quote ≡ false → FirstCut (b ∷ s)
first_plain b s e =
    field_plain b s e ∙ ap (λ (f : List ℕ). found (cut_of (b ∷ s)).whole f (drop (cut_of (b ∷ s)).size (b ∷ s))) bare
  where
    bare : take (cut_of (b ∷ s)).size (b ∷ s) ≡ first_field (b ∷ s)
    bare = rw e

first_quoted : (s : List ℕ) → FirstCut (quote ∷ s)
unfolding cut_from step
first_quoted s = field_quoted s ∙ shorter (cut_from Quoted s)
  where
    shorter : (c : Cut) → found c.whole (take (c.size - 1) s) (drop c.size s) ≡ found c.whole (take (suc c.size - 2) s) (drop c.size s)
    shorter c = let e : suc c.size - 2 ≡ c.size - 1 = omega arith in rw e

open_quote : (s : List ℕ) → (cut_from Quoted s).whole ≡ true → 1 ≤ (cut_from Quoted s).size
unfolding cut_from step
open_quote [] w = absurd (true≢false (sym w))
open_quote (b ∷ s) w = go (eqb b quote)
  where
    go : (x : Bool) → 1 ≤ (onward (cond x (goes Closed []) (goes Quoted (b ∷ []))) (λ r. cut_from r s)).size
    go true = omega arith
    go false = omega arith

quoted_both : (s : List ℕ) → (cut_of (quote ∷ s)).whole ≡ true → 2 ≤ (cut_of (quote ∷ s)).size
unfolding cut_from step
quoted_both s w = omega (arith, open_quote s w)

pub first_cut : (s : List ℕ) → FirstCut s
unfolding cut_from
first_cut [] = field_none
first_cut (b ∷ s) =
    test_cases (λ x. FirstCut (b ∷ s)) (eqb b quote) (λ e. subst FirstAt (sym (eqb-true b quote e)) (first_quoted s)) (first_plain b s)
  where
    FirstAt : ℕ → Type 0
    FirstAt c = FirstCut (c ∷ s)

-- It lies within, and one in quotes that is whole has both quotes.
size_within : (q : State) (s : List ℕ) → (cut_from q s).size ≤ length s
unfolding cut_from
size_within q [] = omega arith
size_within q (b ∷ s) = go (step raw q b) (λ r. size_within r s)
  where
    go : (d : Step) → ((r : State) → (cut_from r s).size ≤ length s) → (onward d (λ r. cut_from r s)).size ≤ suc (length s)
    go stray h = omega arith
    go ends h = omega arith
    go (goes r t) h = omega (arith, h r)

pub cut_within : (s : List ℕ) → (cut_of s).size ≤ length s
cut_within = size_within Fresh

pub cut_both : (s : List ℕ) → starts_quoted s ≡ true → (cut_of s).whole ≡ true → 2 ≤ (cut_of s).size
cut_both [] e w = absurd (true≢false (sym e))
cut_both (b ∷ s) e w = subst Both (sym (eqb-true b quote e)) (quoted_both s) w
  where
    Both : ℕ → Type 0
    Both c = (cut_of (c ∷ s)).whole ≡ true → 2 ≤ (cut_of (c ∷ s)).size

pub told_size : (c : Cut) (n : ℕ) → told c ≡ Some n → n ≡ c.size
told_size c n e = go c.whole c.size e
  where
    go : (b : Bool) (m : ℕ) → cond b (Some m) None ≡ Some n → n ≡ m
    go true m f = cc
    go false m f = cc

-- Of what is left of a line from a place on: the first field is whole, has so many bytes and lies within.
pub record WholeAt (s : List ℕ) (at n : ℕ) : Type 0 where
  pub size : (cut_of (drop at s)).size ≡ n
  pub whole : (cut_of (drop at s)).whole ≡ true
  pub within : at + n ≤ length s

module _ (s : List ℕ) (at : ℕ) where
  told_rest : told (cut_of (take (length s - at) (drop at s))) ≡ told (cut_of (drop at s))
  told_rest = ap (λ (l : List ℕ). told (cut_of l)) (part_rest s at)

  pub told_some : (n : ℕ) → at ≤ length s → Some n ≡ told (cut_of (take (length s - at) (drop at s))) → WholeAt s at n
  told_some n h e = go (cut_of (drop at s)) refl (sym (e ∙ told_rest))
    where
      go : (c : Cut) → cut_of (drop at s) ≡ c → told c ≡ Some n → WholeAt s at n
      go c q e =
          test_cases (λ b. c.whole ≡ b → cond b (Some c.size) None ≡ Some n → WholeAt s at n) c.whole
          (λ _ w f. let z : c.size ≡ n = cc in
          let size = ap (λ (x : Cut). x.size) q ∙ z in
          record { size = size; whole = ap (λ (x : Cut). x.whole) q ∙ w; within = omega (arith, cut_within (drop at s), length-drop at s) })
          (λ _ w f. cc)
          refl
          e

  pub told_none : None ≡ told (cut_of (take (length s - at) (drop at s))) → (cut_of (drop at s)).whole ≡ false
  told_none e =
      go (cut_of (drop at s)).whole (cut_of (drop at s)).size (sym (e ∙ told_rest))
    where
      go : (b : Bool) (n : ℕ) → cond b (Some n) None ≡ None → b ≡ false
      go true n f = cc
      go false n f = refl

-- ---- counting the fields, and finding one

counted_then : (k : ℕ) (f : List ℕ) (o : Option (List (List ℕ))) → counted k (then f o) ≡ counted (k + 1) o
counted_then k f none = refl
counted_then k f (some fs) = let e : k + length (f ∷ fs) ≡ k + 1 + length fs = omega arith in rw e

module _ (s : List ℕ) where
  pub count_stray : (k : ℕ) → (cut_of s).whole ≡ false → counted k (raw_of s) ≡ None
  count_stray k w = ap (counted k) (first_cut s) ∙ rw w

  module _ (w : (cut_of s).whole ≡ true) where
    -- The last field, or one with others behind its comma.
    only_field : (cut_of s).size ≡ length s → raw_of s ≡ some (first_field s ∷ [])
    only_field e = first_cut s ∙ rw (w, e, drop-length)

    more_fields : (cut_of s).size < length s → raw_of s ≡ then (first_field s) (raw_of (drop ((cut_of s).size + 1) s))
    more_fields h = first_cut s ∙ rw (w, drop-cons s (cut_of s).size 0 h, add-one)

    pub count_last : (k : ℕ) → (cut_of s).size ≡ length s → counted k (raw_of s) ≡ Some (k + 1)
    count_last k e = ap (counted k) (only_field e)

    pub count_more : (k : ℕ) → (cut_of s).size < length s → counted k (raw_of s) ≡ counted (k + 1) (raw_of (drop ((cut_of s).size + 1) s))
    count_more k h = ap (counted k) (more_fields h) ∙ counted_then k (first_field s) (raw_of (drop ((cut_of s).size + 1) s))

-- A line that is read: its first field is whole, and what stands behind that is read.
module _ (s : List ℕ) (r : unread (raw_of s) ≡ false) where
  pub read_whole : (cut_of s).whole ≡ true
  read_whole =
      test_cases (λ x. x ≡ true) (cut_of s).whole (λ w. refl)
      (λ w. absurd (true≢false (sym (ap unread (first_cut s) ∙ rw w) ∙ r)))

  pub read_told : told (cut_of s) ≡ Some (cut_of s).size
  read_told = rw read_whole

  pub read_more : (cut_of s).size < length s → unread (raw_of (drop ((cut_of s).size + 1) s)) ≡ false
  read_more h = go (raw_of (drop ((cut_of s).size + 1) s)) (sym (ap unread (more_fields s read_whole h)) ∙ r)
    where
      go : (o : Option (List (List ℕ))) → unread (then (first_field s) o) ≡ false → unread o ≡ false
      go none e = e
      go (some fs) e = refl

  pub field_first : field_at (raw_of s) 0 ≡ first_field s
  field_first =
      elim (dec_lt (cut_of s).size (length s)) [
        | yes h ↦
            let e = more_fields s read_whole h in
            ap (λ o. field_at o 0) e ∙ go (raw_of (drop ((cut_of s).size + 1) s)) (sym (ap unread e) ∙ r)
        | no h ↦ ap (λ o. field_at o 0) (only_field s read_whole (omega (arith, cut_within s)))
      ]
    where
      go : (o : Option (List (List ℕ))) → unread (then (first_field s) o) ≡ false → field_at (then (first_field s) o) 0 ≡ first_field s
      go none e = absurd (true≢false e)
      go (some fs) e = refl

  pub field_past : (j : ℕ) → (cut_of s).size ≡ length s → field_at (raw_of s) (suc j) ≡ []
  field_past j e = ap (λ o. field_at o (suc j)) (only_field s read_whole e) ∙ none_at j
    where
      none_at : (i : ℕ) → get_or {A = List ℕ} [] i [] ≡ []
      none_at zero = refl
      none_at (suc i) = refl

  pub field_later : (j : ℕ) → (cut_of s).size < length s → field_at (raw_of s) (suc j) ≡ field_at (raw_of (drop ((cut_of s).size + 1) s)) j
  field_later j h = ap (λ o. field_at o (suc j)) (more_fields s read_whole h) ∙ go (raw_of (drop ((cut_of s).size + 1) s)) j
    where
      go : (o : Option (List (List ℕ))) (i : ℕ) → field_at (then (first_field s) o) (suc i) ≡ field_at o i
      go none zero = refl
      go none (suc i) = refl
      go (some fs) i = refl

-- From a place on: the place behind the field's comma, and what is found there.
module _ (s : List ℕ) (at n : ℕ) (w : WholeAt s at n) where
  behind_comma : drop ((cut_of (drop at s)).size + 1) (drop at s) ≡ drop (at + n + 1) s
  behind_comma =
      let e : at + ((cut_of (drop at s)).size + 1) ≡ at + n + 1 = omega (arith, w.size) in
      drop-drop ((cut_of (drop at s)).size + 1) at s ∙ ap (λ (x : ℕ). drop x s) e

  at_end : at + n ≡ length s → (cut_of (drop at s)).size ≡ length (drop at s)
  at_end e = omega (arith, w.size, length-drop at s)

  before_end : (at + n ≡ length s → ⊥) → (cut_of (drop at s)).size < length (drop at s)
  before_end e = omega (arith, w.size, w.within, length-drop at s)

  pub last_counted : (k : ℕ) → at + n ≡ length s → counted k (raw_of (drop at s)) ≡ Some (k + 1)
  last_counted k e = count_last (drop at s) w.whole k (at_end e)

  pub next_counted : (k : ℕ) → (at + n ≡ length s → ⊥) → counted k (raw_of (drop at s)) ≡ counted (k + 1) (raw_of (drop (at + n + 1) s))
  next_counted k e = count_more (drop at s) w.whole k (before_end e) ∙ rw behind_comma

  module _ (r : unread (raw_of (drop at s)) ≡ false) where
    pub next_read : (at + n ≡ length s → ⊥) → unread (raw_of (drop (at + n + 1) s)) ≡ false
    next_read e = rw behind_comma at (read_more (drop at s) r (before_end e))

    pub past_last : (j k : ℕ) → k < j → at + n ≡ length s → field_at (raw_of (drop at s)) (j - k) ≡ []
    past_last j k h e =
        let one : j - k ≡ suc (j - k - 1) = omega arith in
        ap (field_at (raw_of (drop at s))) one ∙ field_past (drop at s) r (j - k - 1) (at_end e)

    pub next_field : (j k : ℕ) → k < j → (at + n ≡ length s → ⊥)
        → field_at (raw_of (drop at s)) (j - k) ≡ field_at (raw_of (drop (at + n + 1) s)) (j - (k + 1))
    next_field j k h e =
        let one : j - k ≡ suc (j - (k + 1)) = omega arith in
        ap (field_at (raw_of (drop at s))) one ∙ field_later (drop at s) r (j - (k + 1)) (before_end e) ∙ rw behind_comma

-- The same of what is left from a place on.
pub rest_told : (s : List ℕ) (at : ℕ) → unread (raw_of (drop at s)) ≡ false
    → told (cut_of (take (length s - at) (drop at s))) ≡ Some (cut_of (drop at s)).size
rest_told s at r = told_rest s at ∙ read_told (drop at s) r

-- None is counted exactly where it is not read.
pub count_read : (o : Option (List (List ℕ))) (n : ℕ) → counted 0 o ≡ Some n → (unread o ≡ false) × (n ≡ length (Option.get_or o []))
count_read none n e = cc
count_read (some fs) n e = (refl, let f : 0 + length fs ≡ n = cc in omega arith)

pub count_none : (o : Option (List (List ℕ))) → counted 0 o ≡ None → unread o ≡ true
count_none none e = refl
count_none (some fs) e = cc

-- The first field as a part of a slice: without its quotes, or all of it.
module _ (s : List ℕ) where
  starts : 0 < length s → starts_quoted s ≡ eqb (get_or s 0 0) quote
  starts h = go s h
    where
      go : (l : List ℕ) → 0 < length l → starts_quoted l ≡ eqb (get_or l 0 0) quote
      go [] h = absurd (omega arith)
      go (b ∷ l) h = refl

  pub quoted_size : unread (raw_of s) ≡ false → 0 < length s → get_or s 0 0 ≡ quote → 2 ≤ (cut_of s).size
  quoted_size r h e = cut_both s (starts h ∙ eq-eqb (get_or s 0 0) quote e) (read_whole s r)

  module _ (n : ℕ) (size : n ≡ (cut_of s).size) where
    pub quoted_field : 2 ≤ n → get_or s 0 0 ≡ quote → take (n - 1 - 1) (drop 1 s) ≡ first_field s
    quoted_field h e =
        let k : 0 < length s = omega (arith, cut_within s) in
        let less : n - 1 - 1 ≡ n - 2 = omega arith in
        rw (starts k, eq-eqb (get_or s 0 0) quote e, ← size, less)

    pub bare_field : (0 < length s → get_or s 0 0 ≡ quote → ⊥) → take n s ≡ first_field s
    bare_field h =
        elim (dec_lt 0 (length s)) [
          | yes k ↦ rw (starts k, ne_eqb (get_or s 0 0) quote (h k), ← size)
          | no k ↦
              let e : s ≡ [] = length_nil s (omega arith) in
              rw e (take-nil n ∙ sym (take-nil (cut_of []).size))
        ]
