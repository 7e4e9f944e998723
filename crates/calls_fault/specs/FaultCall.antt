-- What a C program gets from `floe_fault` (rule 125): the number that the file is refused with, and in the result buffer the place; and from the doors to the same of
-- tables, of orders and of sheets. proofs/Only: each has one outcome for every input.
use Rattle.std.specs.Prelude.{List, ◌++◌, Option, Some, None, ℕ, ◌≤◌, ◌<◌, length, drop}
use Rattle.schedule.specs.declared.Recorder.{Recorder}
use Rattle.planner.specs.Promises.{Refused, Reads}
use Rattle.faults.specs.declared.Place.{Place}
use Rattle.faults.specs.Places.{Judged, code_of, record_of, FaultOf, TablesFault}
use Rattle.catalogue.specs.Faults.{part_fault, OrderFault}
use Rattle.sheet_import.specs.LineFaults.{line_fault_at, DevicesFault, JobsFault}
use Rattle.calls.specs.Bytes.{big}
use Rattle.table_bytes.specs.TableBytes.{AreTables, tables_from}

-- Of a place the number of what it is and that of its record, and 0 and 0 where there is none.
abbrev pub code_in : Option Place → ℕ
code_in None = 0
code_in (Some p) = code_of p

abbrev pub record_in : Option Place → ℕ
record_in None = 0
record_in (Some p) = record_of p

-- The eighteen bytes of a place: what it is (1), the number of its record (1), its first byte (8), the byte after its last (8).
abbrev pub eighteen : Judged → List ℕ
eighteen f = ((big 1 (code_in f.place) ++ big 1 (record_in f.place)) ++ big 8 f.from) ++ big 8 f.to

-- With too little room for them nothing is written, and an accepted file is a 15 (rule 72); else the place is told, of an accepted file eighteen zeros.
pub data FaultCalled (file result : List ℕ) : ℕ → List ℕ → Type 0 where
  cramped : {n : ℕ} → length result < 18 → Refused file n → FaultCalled file result n result
  short : {R : Recorder} → length result < 18 → Reads file R → FaultCalled file result 15 result
  told : {f : Judged} → 18 ≤ length result → FaultOf file f → FaultCalled file result f.number (eighteen f ++ drop 18 result)

-- ---- `door_fault`: shut, it returns 255 and writes nothing (rule 74)

pub data FaultDoor (tables result : List ℕ) : ℕ → List ℕ → Type 0 where
  shut : (AreTables tables × (18 ≤ length result) → ⊥) → FaultDoor tables result 255 result
  answered : {f : Judged} → AreTables tables → 18 ≤ length result → TablesFault (tables_from tables) f
      → FaultDoor tables result f.number (eighteen f ++ drop 18 result)

-- ---- `door_order_fault`, `door_devices_fault`, `door_jobs_fault`: a place that is counted goes to eight bytes (rule 130); shut, they return 255 and write nothing

pub data CountedDoor (result : List ℕ) (Told : (number place : ℕ) → Type 0) : ℕ → List ℕ → Type 0 where
  closed : length result < 8 → CountedDoor result Told 255 result
  counted : {n k : ℕ} → 8 ≤ length result → Told n k → CountedDoor result Told n (big 8 k ++ drop 8 result)

abbrev pub OrderFaultDoor : (catalogue wanted result : List ℕ) → ℕ → List ℕ → Type 0
OrderFaultDoor catalogue wanted result = CountedDoor result (λ n k. OrderFault catalogue wanted (part_fault n k))

abbrev pub DevicesFaultDoor : (text result : List ℕ) → ℕ → List ℕ → Type 0
DevicesFaultDoor text result = CountedDoor result (λ n k. DevicesFault text (line_fault_at n k))

abbrev pub JobsFaultDoor : (text result : List ℕ) → ℕ → List ℕ → Type 0
JobsFaultDoor text result = CountedDoor result (λ n k. JobsFault text (line_fault_at n k))
