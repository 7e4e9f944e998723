-- The catalogue: its parts and their numbers, what refuses it or a wanted number (21, 22, 23), and what is looked up in it (rules 55 to 58).
use Rattle.std.specs.Prelude.{◌≡◌, Bool, false, not, cond, ◌&&◌, ◌||◌, List, [], ◌∷◌, map, ◌⊎◌, ℕ, length, take, drop, eqb, leb, ltb}
use Rattle.base.specs.Lists.{padded, all, one}
use Rattle.base.specs.Bytes.{same, pieces}

-- ---- part numbers

abbrev pub space : ℕ
space = 32

-- A digit or a capital letter.
abbrev pub sign : ℕ → Bool
sign b = (leb 48 b && leb b 57) || (leb 65 b && leb b 90)

-- The signs at the front.
abbrev pub front : List ℕ → List ℕ
front [] = []
front (b ∷ s) = cond (sign b) (b ∷ front s) []

-- Eight bytes: at least one sign, and nothing but spaces to the right of the signs (rule 56).
abbrev pub well_formed : List ℕ → Bool
well_formed n = eqb (length n) 8 && (ltb 0 (length (front n)) && same n (padded 8 space (front n)))

-- A number is among others; 21 asks that no more than 64 be given and each be well formed, 22 that none come twice.
abbrev pub has : List (List ℕ) → List ℕ → Bool
has ns n = one (same n) ns

abbrev pub malformed : List (List ℕ) → Bool
malformed ns = ltb 64 (length ns) || not (all well_formed ns)

abbrev pub repeated : List (List ℕ) → Bool
repeated [] = false
repeated (n ∷ ns) = has ns n || repeated ns

-- ---- lent bytes

-- A part: 8 bytes of number, 7 of device record.
pub record Part : Type 0 where
  pub number : List ℕ
  pub device : List ℕ

abbrev pub part_of : List ℕ → Part
part_of s = record { number = take 8 s; device = drop 8 s }

abbrev pub parts_of : List ℕ → List Part
parts_of catalogue = map part_of (pieces 15 catalogue)

abbrev pub numbers : List Part → List (List ℕ)
numbers = map (λ (p : Part). p.number)

-- Its record is whole: it is not a last piece under 15 bytes.
abbrev pub whole : Part → Bool
whole p = eqb (length p.device) 7

-- 21 over the parts; and 23: a wanted number that is the number of no part, well formed or not.
abbrev pub unfit : List Part → Bool
unfit ps = malformed (numbers ps) || not (all whole ps)

abbrev pub lacking : List Part → List (List ℕ) → Bool
lacking ps ws = not (all (has (numbers ps)) ws)

-- ---- looking up

-- A part with this number has this record.
abbrev pub Has : List Part → List ℕ → List ℕ → Type 0
Has [] n d = ⊥
Has (p ∷ ps) n d = ((p.number ≡ n) × (p.device ≡ d)) ⊎ Has ps n d

-- The records of the wanted parts, in the order in which they are wanted.
pub data LookedUp (ps : List Part) : List (List ℕ) → List (List ℕ) → Type 0 where
  none : LookedUp ps [] []
  next : {w d : List ℕ} {ws ds : List (List ℕ)} → Has ps w d → LookedUp ps ws ds → LookedUp ps (w ∷ ws) (d ∷ ds)

-- The same worked out: the first part that has the number.
abbrev pub record_of : List Part → List ℕ → List ℕ
record_of [] n = []
record_of (p ∷ ps) n = cond (same n p.number) p.device (record_of ps n)
