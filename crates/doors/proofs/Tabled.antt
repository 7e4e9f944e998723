-- The tables of a file fit their lists, and their bytes are copied whole.
use mathlib.Core.Path.{◌≡◌, refl, ap, ◌∙◌}
use mathlib.Core.Bool.{Bool, true, false, cond}
use mathlib.Core.List.{List}
use Prim.Native.Nat.{ℕ, ◌+◌, ◌≤◌}
use native.Mathlib.Omega.{arith}
use lib.Dec.{ltb}
use lib.ListN.{length, take}
use Rattle.base.specs.Bytes.{byte_at, pair_at}
use Rattle.schedule.specs.declared.Recorder.{Recorder}
use Rattle.tables.specs.declared.Kind.{Kind}
use Rattle.tables.specs.declared.Kind.TheVariants.{First, Second, Third}
use Rattle.tables.specs.declared.File.{File}
use Rattle.tables.specs.Records.{device_at, told}
use Rattle.tables.specs.declared.Tables.{Tables}
use Rattle.tables.specs.Layout.{kind_of, body_of, tables_as, tables_of, no_tables}
use Rattle.tables.specs.inside.Held.{held}
use Rattle.tables.proofs.Appending.{held_front, held_long}
use Rattle.request.specs.Format.{read_of}
use Rattle.request.proofs.Accepted.{refused_number}
use Rattle.request.proofs.Limiting.{accepted_whole}
use Rattle.planner.specs.declared.Answer.{Answer}
use Rattle.planner.specs.Answers.{Listing}
use Rattle.planner.specs.Promises.{Reads, OfFile, TablesOf, TablesGiven}
use Rattle.planner.specs.Promises as P
use Rattle.table_bytes.specs.TableBytes.{Few}

read_few : (file : List ℕ) (R : Recorder) → Reads file R → Few (tables_of file)
unfolding read_of tables_as
read_few file R r =
    let w = accepted_whole (kind_of file) (body_of file) R r in
    record { devices = w.few_devices; tasks = w.few_tasks; jobs = w.few_jobs }

few_of : (file : List ℕ) (a : Answer) (T : Tables) → OfFile file no_tables (TablesOf file) a T → a.number ≡ 0 → Few T
few_of file a T (P.OfFile.refused {n = n} r) z = absurd (omega (arith, z, refused_number file n r))
few_of file a T (P.OfFile.read {R = R} r P.TablesOf.listed) z = read_few file R r

pub listed_few : (file : List ℕ) (r : Listing) → TablesGiven file r → r.answer.number ≡ 0 → Few r.tables
listed_few file r l z = few_of file r.answer r.tables l z

-- What a file in its array holds.
module _ (l : List ℕ) (made : File) (e : (made ≡ held l) × (made.count ≤ 273)) where
  pub made_count : made.count ≡ length l
  unfolding held
  made_count = ap (λ (f : File). f.count) e.0

  pub made_room : made.count ≤ length made.bytes
  made_room = rw e.0 (held_long l (omega (arith, e.1, made_count)))

  pub made_taken : take made.count made.bytes ≡ l
  made_taken = ap (λ (f : File). take f.count f.bytes) e.0 ∙ held_front l

-- ---- what a kind tells

twice : (b : Bool) (x : ℕ) → cond b (cond b x 0) 0 ≡ cond b x 0
twice true x = refl
twice false x = refl

-- A record that stands in bytes says no more than its kind tells: so nothing of tables that are read from a file, or come through a door, is lost in writing.
pub told_at : (k : Kind) (s : List ℕ) (at : ℕ) → told k (device_at k s at) ≡ device_at k s at
told_at First s at = refl
told_at Second s at = refl
told_at Third s at =
    let n = byte_at s (at + 5) in
    cc (twice (ltb 0 n) (pair_at s (at + 6)), twice (ltb 1 n) (pair_at s (at + 8)), twice (ltb 2 n) (pair_at s (at + 10)), twice (ltb 3 n) (pair_at s (at + 12)))
