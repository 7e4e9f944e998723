-- The round trips through the doors: a file's tables as bytes are written as that file again, and tables as bytes, once written, are told as the same bytes.
use mathlib.Core.Path.{◌≡◌, refl, sym, ap, subst, ◌∙◌}
use mathlib.Core.List.{List, ◌++◌}
use Prim.Native.Nat.{ℕ, zero, suc, ◌≤◌, ◌<◌}
use native.Mathlib.Omega.{arith}
use lib.ListN.{length, take, drop}
use lib.Seq.{take_at}
use Rattle.tables.specs.declared.Tables.{Tables}
use Rattle.tables.specs.Layout.{counted, Bytes}
use Rattle.planner.specs.declared.Answer.{Answer}
use Rattle.planner.specs.Answers.{Listing}
use Rattle.planner.specs.Promises.{success, refusal, stops, passes, Unless, Gives, gives, Written, TablesGiven}
use Rattle.planner.proofs.Refusing.{unless_enough}
use Rattle.planner.proofs.Writing.{written_listed, listed_written, counted_written}
use Rattle.calls.specs.Calls.{told}
use Rattle.table_bytes.specs.TableBytes.{AreTables, tables_from, table_bytes, Few}
use Rattle.table_bytes.proofs.Back.{are_tables, tables_back, bytes_back}
use Rattle.doorway.specs.Doors.{Door, shut, answered, Roomy}
use Rattle.doors.specs.Promises.{WriteDoor, TablesTold, TablesDoor}
use Rattle.doors.specs.Promises as D
use Rattle.doors.proofs.Tabled.{listed_few}

-- What a door that returns 0 has answered: the eleven bytes of it are in the result buffer.
pub record Success {L : Type 0} (result : List ℕ) (Then : Answer → L → Type 0) (result' : List ℕ) (lent' : L) : Type 0 where
  pub answer : Answer
  pub zero : answer.number ≡ 0
  pub tells : result' ≡ told answer result
  pub holds : Then answer lent'

pub succeeds : {L Open : Type 0} {result : List ℕ} {lent : L} {Then : Answer → L → Type 0} {n : ℕ} {result' : List ℕ} {lent' : L}
    → Door Open result lent Then n result' lent' → n ≡ 0 → Success result Then result' lent'
succeeds (shut c) z = absurd (omega arith)
succeeds (answered {a = a} o t) z = record { answer = a; zero = z; tells = refl; holds = t }

-- ---- from a file

-- The bytes of tables are written as the tables themselves are.
bytes_written : (T : Tables) → Few T → (s room result : List ℕ) → s ≡ table_bytes T → Roomy result → (a : Answer) (after : List ℕ) → Written T room a after
    → WriteDoor s room result a.number after (told a result)
bytes_written T few s room result e roomy a after w =
    subst (λ (x : List ℕ). WriteDoor x room result a.number after (told a result)) (sym e)
    (answered (are_tables T few, roomy) (subst (λ (U : Tables). Written U room a after) (sym (tables_back T few)) (counted_written T w)))

-- What is not without being 0 is 0.
settled : (n : ℕ) → ((n ≡ 0 → ⊥) → ⊥) → n ≡ 0
settled zero h = refl
settled (suc n) h = absurd (h (λ e. omega arith))

-- The tables that are given of a file are written as it.
given_written : (file lent : List ℕ) → Bytes file → (r : Listing) → TablesGiven file r → r.answer.number ≡ 0 → (room result : List ℕ) → length file ≤ length room → Roomy result
    → WriteDoor (take (length (table_bytes r.tables)) (table_bytes r.tables ++ drop (length (table_bytes r.tables)) lent)) room result 0 (file ++ drop (length file) room)
    (told (success r.answer.horizon 0 (length file)) result)
given_written file lent b r p q room result l roomy =
    bytes_written r.tables (listed_few file r p q) _ room result (take_at (table_bytes r.tables) (drop (length (table_bytes r.tables)) lent) (length (table_bytes r.tables)) refl)
    roomy (success r.answer.horizon 0 (length file)) (file ++ drop (length file) room) (listed_written file r room b p q l)

told_of_written : (file lent : List ℕ) → Bytes file → (r : Listing) → TablesGiven file r → {a : Answer} {after : List ℕ} → D.ToldOf r lent a after → a.number ≡ 0
    → (room result : List ℕ) → length file ≤ length room → Roomy result
    → WriteDoor (take a.count after) room result 0 (file ++ drop (length file) room) (told (success a.horizon 0 (length file)) result)
told_of_written file lent b r p (stops h) z room result l roomy = absurd (h z)
told_of_written file lent b r p (passes h t) z room result l roomy = fits_written t z room result l roomy
  where
    fits_written : {a : Answer} {after : List ℕ} → Unless (length lent < length (table_bytes r.tables)) (refusal 15) lent
        (Gives (success r.answer.horizon 0 (length (table_bytes r.tables))) (table_bytes r.tables ++ drop (length (table_bytes r.tables)) lent)) a after → a.number ≡ 0
        → (room result : List ℕ) → length file ≤ length room → Roomy result
        → WriteDoor (take a.count after) room result 0 (file ++ drop (length file) room) (told (success a.horizon 0 (length file)) result)
    fits_written (stops s) z room result l roomy = absurd (omega (arith, z))
    fits_written (passes s gives) z room result l roomy = given_written file lent b r p (settled r.answer.number h) room result l roomy

pub told_written : (file lent : List ℕ) → Bytes file → (a : Answer) (after : List ℕ) → TablesTold file lent a after → a.number ≡ 0
    → (room result : List ℕ) → length file ≤ length room → Roomy result
    → WriteDoor (take a.count after) room result 0 (file ++ drop (length file) room) (told (success a.horizon 0 (length file)) result)
told_written file lent b a after (D.TablesTold.told {r = r} p t) = told_of_written file lent b r p t

-- ---- from tables

few_counted : (T : Tables) → Few (counted T) → Few T
unfolding counted
few_counted T f = record { devices = f.devices; tasks = f.tasks; jobs = f.jobs }

pub written_told : (tables lent : List ℕ) → Bytes tables → AreTables tables → (a : Answer) (after : List ℕ) → Written (tables_from tables) lent a after → a.number ≡ 0
    → (room result : List ℕ) → length tables ≤ length room → Roomy result
    → TablesDoor (take a.count after) room result 0 (tables ++ drop (length tables) room) (told (success a.horizon 0 (length tables)) result)
written_told tables lent b are a after w z room result l roomy =
    let T = tables_from tables in
    let listing : TablesGiven (take a.count after) (record { answer = success a.horizon 0 0; tables = counted T }) = written_listed T lent a after w z in
    let few : Few T = few_counted T (listed_few _ _ listing refl) in
    let back : table_bytes T ≡ tables = bytes_back tables are b few in
    let same : table_bytes (counted T) ≡ tables = ap table_bytes (sym (sym (ap tables_from back) ∙ tables_back T few)) ∙ back in
    subst (λ (s : List ℕ). TablesDoor (take a.count after) room result 0 (s ++ drop (length s) room) (told (success a.horizon 0 (length s)) result)) same
    (answered roomy (D.TablesTold.told listing (passes (λ n. n refl) (unless_enough (rw same l) gives))))

-- ---- from door to door

-- What `door_tables` told of a file `door_write` writes as that file.
pub tables_door_back : (file lent result : List ℕ) {lent' result' : List ℕ} → Bytes file → (d : TablesDoor file lent result 0 lent' result')
    → (room more : List ℕ) → length file ≤ length room → Roomy more
    → let a = (succeeds d refl).answer in WriteDoor (take a.count lent') room more 0 (file ++ drop (length file) room) (told (success a.horizon 0 (length file)) more)
tables_door_back file lent result {lent'} b d room more l roomy =
    let s = succeeds d refl in
    told_written file lent b s.answer lent' s.holds s.zero room more l roomy

-- What `door_write` made of tables `door_tables` tells as those tables.
pub write_door_back : (tables lent result : List ℕ) {lent' result' : List ℕ} → Bytes tables → AreTables tables → (d : WriteDoor tables lent result 0 lent' result')
    → (room more : List ℕ) → length tables ≤ length room → Roomy more
    → let a = (succeeds d refl).answer in TablesDoor (take a.count lent') room more 0 (tables ++ drop (length tables) room) (told (success a.horizon 0 (length tables)) more)
write_door_back tables lent result {lent'} b are d room more l roomy =
    let s = succeeds d refl in
    written_told tables lent b are s.answer lent' s.holds s.zero room more l roomy
