-- Comma-separated text after RFC 4180, narrowed (rules 100 to 102): every line ends in CR LF, of which the last line of a text that is read may lack both; a
-- line break is never part of a field; there is no header. Between quotes two quotes stand for one.
use Rattle.std.specs.Prelude.{Bool, true, false, cond, ◌&&◌, List, [], ◌∷◌, ◌++◌, ℕ, eqb}
use Rattle.std.proofs.Math.Option.{Option, none, some}
use Rattle.text.specs.declared.State.{State}
use Rattle.text.specs.declared.State.TheVariants.{Fresh, Plain, Quoted, Closed}

abbrev pub cr : ℕ
cr = 13

abbrev pub lf : ℕ
lf = 10

abbrev pub comma : ℕ
comma = 44

abbrev pub quote : ℕ
quote = 34

-- ---- lines

-- A byte more at the front of the first line.
abbrev pub onto : ℕ → List (List ℕ) → List (List ℕ)
onto b [] = (b ∷ []) ∷ []
onto b (l ∷ ls) = (b ∷ l) ∷ ls

-- Each CR LF ends a line, between quotes too; what stands behind the last is one more, if it is not empty.
unfoldable pub lines_of : List ℕ → List (List ℕ)
lines_of [] = []
lines_of (b ∷ []) = (b ∷ []) ∷ []
lines_of (b ∷ c ∷ s) = cond (eqb b cr && eqb c lf) ([] ∷ lines_of s) (onto b (lines_of (c ∷ s)))

-- The other way: lines, with CR LF behind each.
abbrev pub text_of : List (List ℕ) → List ℕ
text_of [] = []
text_of (l ∷ ls) = l ++ cr ∷ lf ∷ text_of ls

-- ---- the fields of a line

-- In each state (before a field; in one without quotes; between quotes; behind the quote that may close it) a byte is a fault, or it ends the field, or it
-- goes on in a state with these bytes in the field.
pub data Step : Type 0 where
  stray ends : Step
  goes : State → List ℕ → Step

-- `two`: what two quotes stand for between quotes.
unfoldable pub step : List ℕ → State → ℕ → Step
step two Fresh b = cond (eqb b comma) ends (cond (eqb b quote) (goes Quoted []) (goes Plain (b ∷ [])))
step two Plain b = cond (eqb b comma) ends (cond (eqb b quote) stray (goes Plain (b ∷ [])))
step two Quoted b = cond (eqb b quote) (goes Closed []) (goes Quoted (b ∷ []))
step two Closed b = cond (eqb b comma) ends (cond (eqb b quote) (goes Quoted two) stray)

-- At the line's end only a quote that is still open is a fault.
abbrev pub last : State → Option (List (List ℕ))
last Fresh = some ([] ∷ [])
last Plain = some ([] ∷ [])
last Quoted = none
last Closed = some ([] ∷ [])

-- Bytes at the front of the first field; a field before the others.
abbrev pub before : List ℕ → List (List ℕ) → List (List ℕ)
before t [] = t ∷ []
before t (f ∷ fs) = (t ++ f) ∷ fs

abbrev pub kept : List ℕ → Option (List (List ℕ)) → Option (List (List ℕ))
kept t none = none
kept t (some fs) = some (before t fs)

abbrev pub then : List ℕ → Option (List (List ℕ)) → Option (List (List ℕ))
then f none = none
then f (some fs) = some (f ∷ fs)

abbrev pub after : Step → (State → Option (List (List ℕ))) → Option (List (List ℕ))
after stray rest = none
after ends rest = then [] (rest Fresh)
after (goes q t) rest = kept t (rest q)

-- The fields of what is left of a line, the first being the one at hand; none where a quote is stray or still open (27).
unfoldable pub fields_from : List ℕ → State → List ℕ → Option (List (List ℕ))
fields_from two q [] = last q
fields_from two q (b ∷ s) = after (step two q b) (λ r. fields_from two r s)

abbrev pub fields_of : List ℕ → Option (List (List ℕ))
fields_of = fields_from (quote ∷ []) Fresh

-- Such a line is not read.
abbrev pub unread : {A : Type 0} → Option A → Bool
unread none = true
unread (some a) = false
