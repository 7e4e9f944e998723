-- What the nine public operations promise: for each one relation between its inputs and its complete outcome, the answer and the lent memory after it.
-- The file comes first, in one way for all (`OfFile`); then what each operation says of a recorder, its refusals after the file in their order (rule 16), and
-- at last what it gives. proofs/Only: each relation has one outcome for every input, but for a memory that was used. proofs/Cases: what it says case by case.
use Rattle.std.specs.Prelude.{◌≡◌, List, ◌∷◌, ◌++◌, ℕ, ◌*◌, ◌<◌, ℤ, length, drop}
use Rattle.base.specs.Lists.{up_to}
use Rattle.base.specs.Sums.{sum}
use Rattle.device.specs.Row.{energy}
use Rattle.schedule.specs.declared.Recorder.{Recorder}
use Rattle.schedule.specs.Quantities.{device, jobs}
use Rattle.schedule.specs.Listing.{Feasible, Fault, Rows, Costs, FirstLeast, laid, margin}
use Rattle.schedule.specs.Visiting.{vertices}
use Rattle.tables.specs.declared.Tables.{Tables}
use Rattle.tables.specs.Layout.{layout_of, bytes_of, tables_of, no_tables}
use Rattle.request.specs.Format.{read_as, read_of}
use Rattle.request.specs.Format as Format
use Rattle.planner.specs.declared.Answer.{Answer}
use Rattle.planner.specs.Answers.{Listing}

-- ---- answers

-- Success is 0 with the horizon, and with an energy and a count where the operation has them to give (rule 17). A refusal is its number, some with a job or a
-- count; all else in it is 0 (rule 18).
abbrev pub success : ℕ → ℕ → ℕ → Answer
success h e c = record { number = 0; job = record { 0 = 0 }; horizon = h; energy = e; count = c }

abbrev pub refusal : ℕ → Answer
refusal n = record { number = n; job = record { 0 = 0 }; horizon = 0; energy = 0; count = 0 }

abbrev pub refusal_at : ℕ → ℕ → Answer
refusal_at n j = record { number = n; job = record { 0 = j }; horizon = 0; energy = 0; count = 0 }

abbrev pub refusal_after : ℕ → ℕ → Answer
refusal_after n c = record { number = n; job = record { 0 = 0 }; horizon = 0; energy = 0; count = c }

-- ---- the order of refusals

-- Where its test holds a refusal is answered, and the lent memory stays as it was (rule 19); unless it does, the rest decides. So refusals stand in their order
-- (rule 16), each said once.
pub data Unless {L : Type 0} (Test : Type 0) (a : Answer) (lent : L) (Rest : Answer → L → Type 0) : Answer → L → Type 0 where
  stops : Test → Unless Test a lent Rest a lent
  passes : {b : Answer} {after : L} → (Test → ⊥) → Rest b after → Unless Test a lent Rest b after

-- The same for given start times: the first fault is answered with its job (rules 22, 23), unless they are feasible (rule 20).
pub data UnlessFaulty {L : Type 0} (R : Recorder) (starts : List ℕ) (lent : L) (Rest : Answer → L → Type 0) : Answer → L → Type 0 where
  faulty : {n j : ℕ} → Fault R starts n j → UnlessFaulty R starts lent Rest (refusal_at n j) lent
  feasible : {b : Answer} {after : L} → Feasible R starts → Rest b after → UnlessFaulty R starts lent Rest b after

-- At last, where no refusal is: the answer, and the lent memory after it;
pub data Gives {L : Type 0} (a : Answer) (after : L) : Answer → L → Type 0 where
  gives : Gives a after a after

-- or both for an x of which `Such` holds, an energy or rows.
pub data GivesSuch {L X : Type 0} (Such : X → Type 0) (a : X → Answer) (after : X → L) : Answer → L → Type 0 where
  gives_such : {x : X} → Such x → GivesSuch Such a after (a x) (after x)

-- ---- the file

-- The file is refused, by one of the numbers 1 to 13 or 26 (rules 15 and 83); or it is read as the recorder R.
abbrev pub Refused : List ℕ → ℕ → Type 0
Refused file n = read_of file ≡ Format.refused n

abbrev pub Reads : List ℕ → Recorder → Type 0
Reads file R = read_of file ≡ Format.accepted R

-- The outcome of an operation on a file: the file's refusal, which leaves the lent memory as it was (rule 19); or what the operation says of the
-- recorder that the file is read as, `Then`.
pub data OfFile {L : Type 0} (file : List ℕ) (lent : L) (Then : Recorder → Answer → L → Type 0) : Answer → L → Type 0 where
  refused : {n : ℕ} → Refused file n → OfFile file lent Then (refusal n) lent
  read : {R : Recorder} {a : Answer} {after : L} → Reads file R → Then R a after → OfFile file lent Then a after

-- The same for an operation that is lent nothing to write to.
abbrev pub Answered : List ℕ → (Recorder → Answer → Type 0) → Answer → Type 0
Answered file Then a = OfFile {L = Unit {0}} file tt (λ R b u. Then R b) a tt

-- ---- `check`

pub data CheckOf (R : Recorder) : Answer → Type 0 where
  accepted : CheckOf R (success R.horizon 0 0)

abbrev pub Checked : List ℕ → Answer → Type 0
Checked file a = Answered file CheckOf a

-- ---- `sizes`: how many devices, tasks and jobs the request has, a byte each, the jobs that tasks release among the jobs (rule 126); what is lent beyond stays as it was

abbrev pub SizesOf : (tasks : ℕ) (lent : List ℕ) → Recorder → Answer → List ℕ → Type 0
SizesOf tasks lent R = Unless (length lent < 3) (refusal 15) lent (Gives (success R.horizon 0 0) (R.devices.count ∷ tasks ∷ jobs R ∷ drop 3 lent))

abbrev pub Sized : List ℕ → List ℕ → Answer → List ℕ → Type 0
Sized file lent a after = OfFile file lent (SizesOf (tables_of file).tasks.count lent) a after

-- ---- `margins`: a number for each job (rule 21), whether the start times are feasible or not (rule 24); what is lent beyond stays as it was

abbrev pub MarginsOf : (starts : List ℕ) (lent : List ℤ) → Recorder → Answer → List ℤ → Type 0
MarginsOf starts lent R =
    Unless (length starts ≡ jobs R → ⊥) (refusal 14) lent
    (Unless (length lent < jobs R) (refusal 15) lent
    (Gives (success R.horizon 0 0) (up_to (margin R starts) (jobs R) ++ drop (jobs R) lent)))

abbrev pub Margined : List ℕ → List ℕ → List ℤ → Answer → List ℤ → Type 0
Margined file starts lent a after = OfFile file lent (MarginsOf starts lent) a after

-- ---- `verdict`: feasible (rule 20) with the energy of the plan, or the first fault with its job (rules 22, 23)

abbrev pub VerdictOf : (starts : List ℕ) → Recorder → Answer → Type 0
VerdictOf starts R a =
    Unless {L = Unit {0}} (length starts ≡ jobs R → ⊥) (refusal 14) tt
    (UnlessFaulty R starts tt
    (GivesSuch (Costs R starts) (λ e. success R.horizon e 0) (λ e. tt))) a tt

abbrev pub Judged : List ℕ → List ℕ → Answer → Type 0
Judged file starts a = Answered file (VerdictOf starts) a

-- ---- `rows`: for each device the legal row of least energy (rule 37), one after the other (rule 39); what is lent beyond stays as it was

abbrev pub RowsOf : (starts lent : List ℕ) → Recorder → Answer → List ℕ → Type 0
RowsOf starts lent R =
    Unless (length starts ≡ jobs R → ⊥) (refusal 14) lent
    (Unless (length lent < R.devices.count * R.horizon) (refusal 15) lent
    (UnlessFaulty R starts lent
    (GivesSuch (Rows R starts) (λ rows. success R.horizon (sum R.devices.count (λ k. energy (device R k) (rows k))) 0)
    (λ rows. laid R.sleeps rows R.devices.count ++ drop (R.devices.count * R.horizon) lent))))

abbrev pub Rowed : List ℕ → List ℕ → List ℕ → Answer → List ℕ → Type 0
Rowed file starts lent a after = OfFile file lent (RowsOf starts lent) a after

-- ---- `search`: of all feasible schedules (rule 49) the first that costs least (rule 47), if the budget covers the vertices counted (rules 42, 48)

-- A search that counts its vertices, `count` in all, and then gives what `Rest` says.
abbrev pub Counted : (budget count : ℕ) (lent : List ℕ) (R : Recorder) (Rest : Answer → List ℕ → Type 0) → Answer → List ℕ → Type 0
Counted budget count lent R Rest =
    Unless (length lent < jobs R) (refusal 15) lent
    (Unless (budget < count) (refusal_after 20 budget) lent
    (Unless ((s : List ℕ) → Feasible R s → ⊥) (refusal_after 19 count) lent Rest))

-- The start of job j goes to place j, and what is lent beyond stays as it was.
pub data GivesLeast (R : Recorder) (count : ℕ) (lent : List ℕ) : Answer → List ℕ → Type 0 where
  found : {s : List ℕ} {e : ℕ} → FirstLeast R s e → GivesLeast R count lent (success R.horizon e count) (s ++ drop (jobs R) lent)

abbrev pub SearchOf : (budget : ℕ) (lent : List ℕ) → Recorder → Answer → List ℕ → Type 0
SearchOf budget lent R = Counted budget (vertices R) lent R (GivesLeast R (vertices R) lent)

abbrev pub Searched : List ℕ → ℕ → List ℕ → Answer → List ℕ → Type 0
Searched file budget lent a after = OfFile file lent (SearchOf budget lent) a after

-- ---- `search_in`: the same with a memory that is lent to work in (rule 127)

-- What is lent to work in stays as it was, unless it is used; then it may hold anything.
abbrev pub KeptUnless : (Used : Type 0) (memory after : List ℕ) → Type 0
KeptUnless Used memory after = (Used → ⊥) → after ≡ memory

-- It is used only where more than 256 vertices are counted, so never with a refusal but 19 and 20.
abbrev pub SearchedIn : (file : List ℕ) (budget : ℕ) (memory lent : List ℕ) → Answer → (memory' after : List ℕ) → Type 0
SearchedIn file budget memory lent a memory' after = Searched file budget lent a after × KeptUnless (256 < a.count) memory memory'

-- ---- `write`: the file that the tables make. They are refused as the reader of their kind refuses its layout (rule 52), and only then is the room looked at (rule 53);
-- what is lent beyond the file stays as it was. The mark is not read: tables are of the kind that they say, whatever their horizon field

abbrev pub WriteOf : (T : Tables) (lent : List ℕ) → Recorder → Answer → List ℕ → Type 0
WriteOf T lent R =
    Unless (length lent < length (bytes_of T)) (refusal 15) lent
    (Gives (success R.horizon 0 (length (bytes_of T))) (bytes_of T ++ drop (length (bytes_of T)) lent))

pub data Written (T : Tables) (lent : List ℕ) : Answer → List ℕ → Type 0 where
  refused : {n : ℕ} → read_as T.kind (layout_of T) ≡ Format.refused n → Written T lent (refusal n) lent
  read : {R : Recorder} {a : Answer} {after : List ℕ} → read_as T.kind (layout_of T) ≡ Format.accepted R → WriteOf T lent R a after → Written T lent a after

-- ---- `tables_of`: the tables of the file as it gives them, tasks as tasks; none with a refusal (rule 54)

pub data TablesOf (file : List ℕ) (R : Recorder) : Answer → Tables → Type 0 where
  listed : TablesOf file R (success R.horizon 0 0) (tables_of file)

abbrev pub TablesGiven : List ℕ → Listing → Type 0
TablesGiven file r = OfFile file no_tables (TablesOf file) r.answer r.tables
