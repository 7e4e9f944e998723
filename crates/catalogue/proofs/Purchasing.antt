-- What a buyer is told by a file that was built: it is accepted, it has a device for each wanted part, and that device is the catalogue's record of the part.
use mathlib.Core.Path.{◌≡◌, refl, ap, ◌∙◌}
use mathlib.Core.List.{List, [], map}
use Prim.Native.Nat.{ℕ, zero, suc, ◌<◌}
use native.Mathlib.Omega.{arith}
use lib.ListN.{length, take, get_or, get_or-map}
use lib.Seq.{get_or-take}
use Rattle.base.proofs.Arrays.{get_d_padded}
use Rattle.base.specs.Bytes.{pieces}
use Rattle.tables.specs.declared.DeviceRecord.{DeviceRecord}
use Rattle.tables.specs.Records.{first_at, blank_device}
use Rattle.tables.specs.Layout.{device_in, counted}
use Rattle.planner.specs.declared.Answer.{Answer}
use Rattle.planner.specs.Promises.{success, Checked, Written, TablesGiven}
use Rattle.planner.proofs.Writing.{written_checked, written_listed}
use Rattle.catalogue.specs.Parts.{Part, parts_of, Has, LookedUp}
use Rattle.catalogue.specs.Parts as Parts
use Rattle.catalogue.specs.Building.{Others, tables_with, Built}
use Rattle.catalogue.specs.Building as B

-- ---- the records

-- As many records as wanted parts, each that of a part with the eight bytes that are wanted.
pub as_many : (ps : List Part) {ws ds : List (List ℕ)} → LookedUp ps ws ds → length ds ≡ length ws
as_many ps Parts.LookedUp.none = refl
as_many ps (Parts.LookedUp.next h l) = ap suc (as_many ps l)

pub each_its_own : (ps : List Part) {ws ds : List (List ℕ)} → LookedUp ps ws ds → (k : ℕ) → k < length ws → Has ps (get_or ws k []) (get_or ds k [])
each_its_own ps Parts.LookedUp.none k l = absurd (omega arith)
each_its_own ps (Parts.LookedUp.next h l) zero k = h
each_its_own ps (Parts.LookedUp.next h l) (suc k) m = each_its_own ps l k (omega arith)

-- Device k of the tables is record k.
pub device_is : (o : Others) (ds : List (List ℕ)) (k : ℕ) → k < 8 → k < length ds → device_in (tables_with o ds) k ≡ first_at (get_or ds k []) 0
device_is o ds k few l =
    let read : List ℕ → DeviceRecord = λ d. first_at d 0 in
    get_d_padded 8 blank_device (take 8 (map read ds)) k ∙ get_or-take 8 (map read ds) k blank_device few ∙ get_or-map read ds k []

-- ---- the file

-- The records that a file was built from, and the file as the writer wrote it.
pub record BuiltFrom (catalogue wanted : List ℕ) (o : Others) (lent : List ℕ) (a : Answer) (after : List ℕ) : Type 0 where
  pub records : List (List ℕ)
  pub looked_up : LookedUp (parts_of catalogue) (pieces 8 wanted) records
  pub written : Written (tables_with o records) lent a after

module _ (catalogue wanted : List ℕ) (o : Others) (lent : List ℕ) where
  pub built_from : (a : Answer) (after : List ℕ) → Built catalogue wanted o lent a after → a.number ≡ 0 → BuiltFrom catalogue wanted o lent a after
  built_from a after (B.BuiltOf.bad u) z = absurd (omega arith)
  built_from a after (B.BuiltOf.twice u r) z = absurd (omega arith)
  built_from a after (B.BuiltOf.missing u r k) z = absurd (omega arith)
  built_from a after (B.BuiltOf.built {ds} u r k w) z = record { records = ds; looked_up = k; written = w }

  -- It is accepted, and listed as the tables with these records.
  pub built_checked : (a : Answer) (after : List ℕ) → Built catalogue wanted o lent a after → a.number ≡ 0
      → Checked (take a.count after) (success a.horizon 0 0)
  built_checked a after b z =
      let f = built_from a after b z in
      written_checked (tables_with o f.records) lent a after f.written z

  pub built_listed : (a : Answer) (after : List ℕ) (b : Built catalogue wanted o lent a after) (z : a.number ≡ 0)
      → TablesGiven (take a.count after) (record { answer = success a.horizon 0 0; tables = counted (tables_with o (built_from a after b z).records) })
  built_listed a after b z =
      let f = built_from a after b z in
      written_listed (tables_with o f.records) lent a after f.written z
