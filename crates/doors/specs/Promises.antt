-- What the doors promise: for each its complete outcome, the number returned and every lent byte after it. What is answered stands in the promise of the
-- operation; here is to what a door opens, and how its bytes cross. proofs/Only: each door has one outcome for every input.
use Rattle.std.specs.Prelude.{◌≡◌, List, ◌++◌, ℕ, suc, ◌-◌, ◌*◌, ◌/◌, ◌<◌, ℤ, pos, negsuc, length, get_or, drop, replicate}
use Rattle.base.specs.Bytes.{byte_at, pair_at}
use Rattle.schedule.specs.declared.Recorder.{Recorder}
use Rattle.schedule.specs.Quantities.{jobs}
use Rattle.planner.specs.declared.Answer.{Answer}
use Rattle.planner.specs.Answers.{Listing}
use Rattle.planner.specs.Promises.{success, refusal, Unless, Gives, OfFile, Judged, MarginsOf, Written, TablesGiven}
use Rattle.catalogue.specs.Building.{Others, others, Built}
use Rattle.possible.specs.Promises.{PossibleOf}
use Rattle.mend.specs.Promises.{Lent, lending, MendOf}
use Rattle.stepper.specs.Promises.{StepsOf}
use Rattle.sheet.specs.Promises.{ImportedDevices, ImportedJobs, ExportedDevices, ExportedJobs, ExportedPlan}
use Rattle.calls.specs.Calls.{Spelled, blank, twos}
use Rattle.table_bytes.specs.TableBytes.{AreTables, tables_from, table_bytes}
use Rattle.doorway.specs.Doors.{Door, Roomy, Paired, starts_of, fours}

-- ---- `door_verdict`

abbrev pub VerdictDoor : (file starts result : List ℕ) → ℕ → List ℕ → Type 0
VerdictDoor file starts result n result' = Door {L = Unit {0}} (Paired starts × Roomy result) result tt (λ a u. Judged file (starts_of starts) a) n result' tt

-- ---- `door_margins`: four bytes a job, a negative margin by its two's complement

abbrev pub complement : ℤ → ℕ
complement (pos n) = n
complement (negsuc n) = 4294967296 - suc n

abbrev pub empty_margins : List ℕ → List ℤ
empty_margins lent = replicate (length lent / 4) (pos 0)

abbrev pub MarginsSpelled : (starts lent : List ℕ) → Recorder → Answer → List ℕ → Type 0
MarginsSpelled starts lent R = Spelled lent (λ a m. fours (λ j. complement (get_or m j (pos 0))) (jobs R) lent) (MarginsOf starts (empty_margins lent) R)

abbrev pub MarginsDoor : (file starts lent result : List ℕ) → ℕ → List ℕ → List ℕ → Type 0
MarginsDoor file starts lent result n lent' result' =
    Door (Paired starts × Roomy result) result lent (OfFile file lent (MarginsSpelled (starts_of starts) lent)) n result' lent'

-- ---- `door_possible`: two bytes a job

abbrev pub PossibleSpelled : (budget : ℕ) (lent : List ℕ) → Recorder → Answer → List ℕ → Type 0
PossibleSpelled budget lent R = Spelled lent (λ a s. twos s (jobs R) lent) (PossibleOf budget (blank lent) R)

abbrev pub PossibleDoor : (file : List ℕ) (budget : ℕ) (lent result : List ℕ) → ℕ → List ℕ → List ℕ → Type 0
PossibleDoor file budget lent result n lent' result' = Door (Roomy result) result lent (OfFile file lent (PossibleSpelled budget lent)) n result' lent'

-- ---- `door_mend`: two bytes a job, and two for each number of the moves

abbrev pub MendSpelled : (given : List ℕ) (lent : Lent) → Recorder → Answer → Lent → Type 0
MendSpelled given lent R =
    Spelled lent (λ a l. lending (twos l.starts (jobs R) lent.starts) (twos l.moved (3 * a.count) lent.moved))
    (MendOf given (lending (blank lent.starts) (blank lent.moved)) R)

abbrev pub MendDoor : (file starts : List ℕ) (lent : Lent) (result : List ℕ) → ℕ → Lent → List ℕ → Type 0
MendDoor file starts lent result n lent' result' =
    Door (Paired starts × Roomy result) result lent (OfFile file lent (MendSpelled (starts_of starts) lent)) n result' lent'

-- ---- `door_write`: tables as table_bytes/specs/TableBytes has them

abbrev pub WriteDoor : (tables lent result : List ℕ) → ℕ → List ℕ → List ℕ → Type 0
WriteDoor tables lent result n lent' result' = Door (AreTables tables × Roomy result) result lent (Written (tables_from tables) lent) n result' lent'

-- ---- `door_build`: the tables are of the first kind and have no devices, which are looked up

abbrev pub Deviceless : List ℕ → Type 0
Deviceless tables = (byte_at tables 0 ≡ 1) × (pair_at tables 3 ≡ 0)

abbrev pub others_from : List ℕ → Others
others_from tables = let T = tables_from tables in others T.horizon T.tasks T.jobs

abbrev pub BuildDoor : (catalogue wanted tables lent result : List ℕ) → ℕ → List ℕ → List ℕ → Type 0
BuildDoor catalogue wanted tables lent result n lent' result' =
    Door (AreTables tables × Deviceless tables × Roomy result) result lent (Built catalogue wanted (others_from tables) lent) n result' lent'

-- ---- `door_tables`: the file's refusal; or the bytes of its tables, which the answer counts, and 15 where they have no room. What is lent beyond stays as it was

abbrev pub ToldOf : (r : Listing) (lent : List ℕ) → Answer → List ℕ → Type 0
ToldOf r lent =
    let bytes = table_bytes r.tables in
    Unless (r.answer.number ≡ 0 → ⊥) r.answer lent
    (Unless (length lent < length bytes) (refusal 15) lent
    (Gives (success r.answer.horizon 0 (length bytes)) (bytes ++ drop (length bytes) lent)))

pub data TablesTold (file lent : List ℕ) : Answer → List ℕ → Type 0 where
  told : {r : Listing} {a : Answer} {after : List ℕ} → TablesGiven file r → ToldOf r lent a after → TablesTold file lent a after

abbrev pub TablesDoor : (file lent result : List ℕ) → ℕ → List ℕ → List ℕ → Type 0
TablesDoor file lent result n lent' result' = Door (Roomy result) result lent (TablesTold file lent) n result' lent'

-- ---- `door_step`: four bytes a device

abbrev pub empty_energies : List ℕ → List ℕ
empty_energies lent = replicate (length lent / 4) 0

abbrev pub StepsSpelled : (file starts lent : List ℕ) → Recorder → Answer → List ℕ → Type 0
StepsSpelled file starts lent R = Spelled lent (λ a e. fours (λ k. get_or e k 0) R.devices.count lent) (StepsOf file starts (empty_energies lent) R)

abbrev pub StepDoor : (file starts lent result : List ℕ) → ℕ → List ℕ → List ℕ → Type 0
StepDoor file starts lent result n lent' result' =
    Door (Paired starts × Roomy result) result lent (OfFile file lent (StepsSpelled file (starts_of starts) lent)) n result' lent'

-- ---- the doors to the sheets

abbrev pub ImportDevicesDoor : (text lent result : List ℕ) → ℕ → List ℕ → List ℕ → Type 0
ImportDevicesDoor text lent result n lent' result' = Door (Roomy result) result lent (ImportedDevices text lent) n result' lent'

abbrev pub ImportJobsDoor : (text lent result : List ℕ) → ℕ → List ℕ → List ℕ → Type 0
ImportJobsDoor text lent result n lent' result' = Door (Roomy result) result lent (ImportedJobs text lent) n result' lent'

abbrev pub ExportDevicesDoor : (catalogue lent result : List ℕ) → ℕ → List ℕ → List ℕ → Type 0
ExportDevicesDoor catalogue lent result n lent' result' = Door (Roomy result) result lent (ExportedDevices catalogue lent) n result' lent'

abbrev pub ExportJobsDoor : (records lent result : List ℕ) → ℕ → List ℕ → List ℕ → Type 0
ExportJobsDoor records lent result n lent' result' = Door (Roomy result) result lent (ExportedJobs records lent) n result' lent'

abbrev pub ExportPlanDoor : (file starts lent result : List ℕ) → ℕ → List ℕ → List ℕ → Type 0
ExportPlanDoor file starts lent result n lent' result' =
    Door (Paired starts × Roomy result) result lent (ExportedPlan file (starts_of starts) lent) n result' lent'
