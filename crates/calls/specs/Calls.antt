-- What a C program gets (rules 70 to 74): for each call one relation between its buffers and its complete outcome, the number returned and every buffer after
-- it. What is planned stands in the planner's promises; here is how it crosses. proofs/Only: each relation has one outcome for every input, but for a memory that was
-- used.
use Rattle.std.specs.Prelude.{◌≡◌, cond, List, ◌++◌, ℕ, ◌*◌, ◌/◌, ◌<◌, leb, length, take, drop, replicate}
use Rattle.schedule.specs.declared.Recorder.{Recorder}
use Rattle.schedule.specs.Quantities.{jobs}
use Rattle.tables.specs.Layout.{tables_of}
use Rattle.planner.specs.declared.Answer.{Answer}
use Rattle.planner.specs.Promises.{refusal, Unless, OfFile, CheckOf, SizesOf, RowsOf, SearchOf, KeptUnless}
use Rattle.calls.specs.Bytes.{eleven, spread, starts_in}

-- ---- the result buffer

-- It holds the eleven bytes of every answer, of a refusal too, if it has room for them; what follows them stays as it was (rule 71).
unfoldable pub told : Answer → List ℕ → List ℕ
told a result = cond (leb 11 (length result)) (eleven a ++ drop 11 result) result

-- Too little room for the eleven bytes is a 15; else the call goes on to what `Then` says (rule 72).
abbrev pub Roomed : {L : Type 0} → (result : List ℕ) (lent : L) (Then : Answer → L → Type 0) → Answer → L → Type 0
Roomed result lent Then = Unless (length result < 11) (refusal 15) lent Then

-- The outcome of a call on a file: the answer's number is returned, and its eleven bytes are in the result buffer.
pub data Called {L : Type 0} (file result : List ℕ) (lent : L) (Then : Recorder → Answer → L → Type 0) : ℕ → List ℕ → L → Type 0 where
  called : {a : Answer} {after : L} → OfFile file lent Then a after → Called file result lent Then a.number (told a result) after

-- The same with a memory that is lent to work in: it stays as it was, unless the answer is one with which it is used.
pub data CalledIn {L : Type 0} (Used : Answer → Type 0) (file result memory : List ℕ) (lent : L) (Then : Recorder → Answer → L → Type 0) : ℕ → List ℕ → List ℕ → L → Type 0 where
  called_in : {a : Answer} {memory' : List ℕ} {after : L} → OfFile file lent Then a after → KeptUnless (Used a) memory memory'
      → CalledIn Used file result memory lent Then a.number (told a result) memory' after

-- ---- `floe_check`

abbrev pub CheckCallOf : List ℕ → Recorder → Answer → Unit {0} → Type 0
CheckCallOf result R a u = Roomed {L = Unit {0}} result tt (λ b v. CheckOf R b) a u

abbrev pub CheckCalled : List ℕ → List ℕ → ℕ → List ℕ → Type 0
CheckCalled file result n after = Called {L = Unit {0}} file result tt (CheckCallOf result) n after tt

-- ---- `floe_sizes`: three bytes, the numbers of devices, tasks and jobs

abbrev pub SizesCalled : (file lent result : List ℕ) (n : ℕ) (lent' result' : List ℕ) → Type 0
SizesCalled file lent result n lent' result' =
    Called file result lent (λ R a l. Roomed result lent (SizesOf (tables_of file).tasks.count lent R) a l) n result' lent'

-- ---- numbers that cross as bytes

-- An operation that fills places with numbers is handed empty ones, as many as the lent bytes have room for. Where it succeeds its numbers are written to the
-- bytes; a refusal writes nothing.
pub data Spelled {P L : Type 0} (lent : L) (written : Answer → P → L) (Then : Answer → P → Type 0) : Answer → L → Type 0 where
  kept : {a : Answer} {places : P} → (a.number ≡ 0 → ⊥) → Then a places → Spelled lent written Then a lent
  given : {a : Answer} {places : P} → a.number ≡ 0 → Then a places → Spelled lent written Then a (written a places)

-- ---- a plan's start times: the lent bytes hold as many as they have pairs; the plan's go to the first of them, and nothing else is written (rule 73)

abbrev pub blank : List ℕ → List ℕ
blank lent = replicate (length lent / 2) 0

-- The first n start times of a list, two bytes each; what is lent beyond stays as it was.
abbrev pub twos : List ℕ → ℕ → List ℕ → List ℕ
twos starts n lent = spread (take n starts) ++ drop (n * 2) lent

-- `Plans` says what is planned where numbers are lent.
unfoldable pub StartsOf : (Plans : List ℕ → Recorder → Answer → List ℕ → Type 0) (lent : List ℕ) → Recorder → Answer → List ℕ → Type 0
StartsOf Plans lent R = Spelled lent (λ a s. twos s (jobs R) lent) (Plans (blank lent) R)

abbrev pub StartsCalled : (Plans : List ℕ → Recorder → Answer → List ℕ → Type 0) (file lent result : List ℕ) (n : ℕ) (lent' result' : List ℕ) → Type 0
StartsCalled Plans file lent result n lent' result' =
    Called file result lent (λ R a l. Roomed result lent (StartsOf Plans lent R) a l) n result' lent'

abbrev pub StartsCalledIn :
    (Used : Answer → Type 0) (Plans : List ℕ → Recorder → Answer → List ℕ → Type 0) (file memory lent result : List ℕ) (n : ℕ) (memory' lent' result' : List ℕ) → Type 0
StartsCalledIn Used Plans file memory lent result n memory' lent' result' =
    CalledIn Used file result memory lent (λ R a l. Roomed result lent (StartsOf Plans lent R) a l) n result' memory' lent'

-- ---- `floe_search`, and with a lent memory `floe_search_in`

abbrev pub SearchCalled : (file : List ℕ) (budget : ℕ) (lent result : List ℕ) (n : ℕ) (lent' result' : List ℕ) → Type 0
SearchCalled file budget lent result n lent' result' = StartsCalled (SearchOf budget) file lent result n lent' result'

abbrev pub SearchInCalled : (file : List ℕ) (budget : ℕ) (memory lent result : List ℕ) (n : ℕ) (memory' lent' result' : List ℕ) → Type 0
SearchInCalled file budget memory lent result n memory' lent' result' =
    StartsCalledIn (λ a. 256 < a.count) (SearchOf budget) file memory lent result n memory' lent' result'

-- ---- `floe_rows`: two bytes a job, neither more nor fewer (rule 73)

abbrev pub RowsCallOf : (starts lent result : List ℕ) → Recorder → Answer → List ℕ → Type 0
RowsCallOf starts lent result R =
    Unless (length starts ≡ jobs R * 2 → ⊥) (refusal 14) lent
    (Roomed result lent (RowsOf (starts_in starts (jobs R)) lent R))

abbrev pub RowsCalled : (file starts lent result : List ℕ) (n : ℕ) (lent' result' : List ℕ) → Type 0
RowsCalled file starts lent result n lent' result' = Called file result lent (RowsCallOf starts lent result) n result' lent'
