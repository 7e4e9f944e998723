-- What `build` promises: a request file from part numbers, the other sections being given (rules 57 and 58). 21 before 22 before 23, each over the whole, and
-- all before whatever the planner's writer says of the records that are looked up: `Written` is cited, and not opened.
use Rattle.std.specs.Prelude.{◌≡◌, true, false, List, map, ℕ, length, take}
use Rattle.base.specs.Lists.{padded}
use Rattle.base.specs.Bytes.{pieces}
use Rattle.tables.specs.declared.Kind.TheVariants.{First}
use Rattle.tables.specs.declared.Table.{Table}
use Rattle.tables.specs.declared.DeviceRecord.{DeviceRecord}
use Rattle.tables.specs.declared.TaskRecord.{TaskRecord}
use Rattle.tables.specs.declared.JobRecord.{JobRecord}
use Rattle.tables.specs.declared.Tables.{Tables}
use Rattle.tables.specs.Records.{first_at, blank_device}
use Rattle.planner.specs.declared.Answer.{Answer}
use Rattle.planner.specs.Promises.{refusal, Written}
use Rattle.catalogue.specs.Parts.{Part, parts_of, numbers, unfit, repeated, lacking, LookedUp}

-- The device table of records, seven bytes each. Its list holds eight; its count is that of all.
abbrev pub devices_of : List (List ℕ) → Table DeviceRecord 8
devices_of ds = record { count = length ds; list = padded 8 blank_device (take 8 (map (λ (d : List ℕ). first_at d 0) ds)) }

-- The other sections: the horizon field, the tasks and the jobs.
pub record Others : Type 0 where
  pub horizon : ℕ
  pub tasks : Table TaskRecord 8
  pub jobs : Table JobRecord 16

abbrev pub others : ℕ → Table TaskRecord 8 → Table JobRecord 16 → Others
others h ts js = record { horizon = h; tasks = ts; jobs = js }

-- The tables of the first kind that these records make with them.
abbrev pub tables_with : Others → List (List ℕ) → Tables
tables_with o ds = record { kind = First; horizon = o.horizon; devices = devices_of ds; tasks = o.tasks; jobs = o.jobs }

-- Over parts and wanted numbers: the answer, and the lent bytes after it.
pub data BuiltOf (ps : List Part) (ws : List (List ℕ)) (o : Others) (lent : List ℕ) : Answer → List ℕ → Type 0 where
  bad : unfit ps ≡ true → BuiltOf ps ws o lent (refusal 21) lent
  twice : unfit ps ≡ false → repeated (numbers ps) ≡ true → BuiltOf ps ws o lent (refusal 22) lent
  missing : unfit ps ≡ false → repeated (numbers ps) ≡ false → lacking ps ws ≡ true → BuiltOf ps ws o lent (refusal 23) lent
  built : {ds : List (List ℕ)} {a : Answer} {after : List ℕ} → unfit ps ≡ false → repeated (numbers ps) ≡ false → LookedUp ps ws ds
      → Written (tables_with o ds) lent a after → BuiltOf ps ws o lent a after

-- Over lent bytes: parts of 15, wanted numbers of 8.
abbrev pub Built : List ℕ → List ℕ → Others → List ℕ → Answer → List ℕ → Type 0
Built catalogue wanted o lent a after = BuiltOf (parts_of catalogue) (pieces 8 wanted) o lent a after
