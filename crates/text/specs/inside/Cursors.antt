-- The same text by places, as the code goes along it, two quotes between quotes left as they stand (`raw_of`). Nobody need believe these: no promise speaks of
-- them. proofs/Scanning: they are the lines, fields and numbers of the definitions.
use Rattle.std.specs.Prelude
use Rattle.std.specs.Prelude.{Bool, true, false, cond, ◌&&◌, List, [], ◌∷◌, Some, None, ℕ, suc, ◌+◌, ◌-◌, ◌*◌, min, length, take, drop, get_or, eqb, leb, ltb}
use Rattle.std.proofs.Math.Option
use Rattle.std.proofs.Math.Option.{Option, none, some}
use Rattle.base.specs.Lists.{all}
use Rattle.text.specs.declared.State.{State}
use Rattle.text.specs.declared.State.TheVariants.{Fresh, Plain, Quoted, Closed}
use Rattle.text.specs.declared.Turn.{Turn}
use Rattle.text.specs.declared.Turn.TheVariants.{Stray, Ends, Goes}
use Rattle.text.specs.Grammar.{cr, lf, quote, Step, stray, ends, goes, step, fields_from}
use Rattle.text.specs.Numerals.{digit, value_from}

-- ---- lines

-- The length of the first line: the place of the first CR LF, or the text's length; and the place behind its CR LF.
unfoldable pub line_length : List ℕ → ℕ
line_length [] = 0
line_length (b ∷ []) = 1
line_length (b ∷ c ∷ s) = cond (eqb b cr && eqb c lf) 0 (suc (line_length (c ∷ s)))

-- CR LF stands at place i.
abbrev pub breaks_at : List ℕ → ℕ → Bool
breaks_at s i = eqb (get_or s i 0) cr && eqb (get_or s (i + 1) 0) lf

abbrev pub next_line : List ℕ → ℕ
next_line s = cond (ltb (line_length s) (length s)) (line_length s + 2) (line_length s)

-- ---- fields

abbrev pub raw : List ℕ
raw = quote ∷ quote ∷ []

abbrev pub raw_of : List ℕ → Option (List (List ℕ))
raw_of = fields_from (quote ∷ quote ∷ []) Fresh

-- What a byte does, without the field's bytes.
abbrev pub turn_of : Step → Turn
turn_of stray = Stray
turn_of ends = Ends
turn_of (goes q t) = Goes q

-- A line may end in this state.
abbrev pub is_over : State → Bool
is_over Fresh = true
is_over Plain = true
is_over Quoted = false
is_over Closed = true

-- How far a field reaches: the bytes before the comma or the line's end, and whether no quote is stray or open till there.
pub record Cut : Type 0 where
  pub size : ℕ
  pub whole : Bool

abbrev pub onward : Step → (State → Cut) → Cut
onward stray rest = record { size = 0; whole = false }
onward ends rest = record { size = 0; whole = true }
onward (goes q t) rest = let c = rest q in record { size = suc c.size; whole = c.whole }

unfoldable pub cut_from : State → List ℕ → Cut
cut_from q [] = record { size = 0; whole = is_over q }
cut_from q (b ∷ s) = onward (step (quote ∷ quote ∷ []) q b) (λ r. cut_from r s)

abbrev pub cut_of : List ℕ → Cut
cut_of = cut_from Fresh

-- What the code tells of it: how far it reaches, if it is whole.
abbrev pub told : Cut → Prelude.Option ℕ
told c = cond c.whole (Some c.size) None

-- A field's bytes: those up to its end, without the quotes around them.
abbrev pub starts_quoted : List ℕ → Bool
starts_quoted [] = false
starts_quoted (b ∷ s) = eqb b quote

abbrev pub first_field : List ℕ → List ℕ
first_field s = cond (starts_quoted s) (take ((cut_of s).size - 2) (drop 1 s)) (take (cut_of s).size s)

-- How many fields there are behind k; none where a quote is stray or open.
abbrev pub counted : ℕ → Option (List (List ℕ)) → Prelude.Option ℕ
counted k none = None
counted k (some fs) = Some (k + length fs)

-- Field i; empty past the last.
abbrev pub field_at : Option (List (List ℕ)) → ℕ → List ℕ
field_at o i = get_or (Option.get_or o []) i []

-- ---- numbers

-- The number that the digits s make behind one read so far, if it has 16 bits; and that of a field, which has one digit at least.
abbrev pub number_from : ℕ → List ℕ → Prelude.Option ℕ
number_from v s = cond (all digit s && leb (value_from v s) 65535) (Some (value_from v s)) None

abbrev pub number_of : List ℕ → Prelude.Option ℕ
number_of f = cond (ltb 0 (length f)) (number_from 0 f) None

-- It is a number of at most m.
abbrev pub fits : ℕ → Prelude.Option ℕ → Bool
fits m None = false
fits m (Some n) = leb n m
