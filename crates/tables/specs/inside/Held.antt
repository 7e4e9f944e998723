-- What the code keeps and knows on the way. Nobody need believe these: no contract of a public operation speaks of them.
use Rattle.std.specs.Prelude.{◌≡◌, List, [], ◌∷◌, ℕ, ◌+◌, ◌*◌, ◌≤◌, min, length, set}
use Rattle.base.specs.Bytes.{byte_at}
use Rattle.base.specs.Lists.{padded}
use Rattle.tables.specs.declared.Kind.{Kind}
use Rattle.tables.specs.declared.Tables.{Tables}
use Rattle.tables.specs.declared.File.{File}
use Rattle.tables.specs.Layout.{task_count, jobs_place}

-- Tables whose counts are limited to one above the limits of a file, so that they fit an array. A count that is limited is refused all the same
-- (request/proofs/Limiting).
unfoldable pub limited : Tables → Tables
limited T =
    record {
      kind = T.kind;
      horizon = T.horizon;
      devices = record { count = min T.devices.count 9; list = T.devices.list };
      tasks = record { count = min T.tasks.count 9; list = T.tasks.list };
      jobs = record { count = min T.jobs.count 17; list = T.jobs.list };
    }

-- Bytes in an array of 297.
unfoldable pub held : List ℕ → File
held l = record { count = length l; bytes = padded 297 0 l }

-- With more bytes after those that it has.
unfoldable pub appended : File → List ℕ → File
appended f [] = f
appended f (b ∷ l) = appended (record { count = f.count + 1; bytes = set f.bytes f.count b }) l

-- What follows the mark of a file of a kind: its tables are all there, with nothing after them, and fit their lists.
pub record Whole (k : Kind) (s : List ℕ) : Type 0 where
  pub few_devices : byte_at s 2 ≤ 8
  pub few_tasks : task_count k s ≤ 8
  pub few_jobs : byte_at s (jobs_place k s) ≤ 16
  pub ends : jobs_place k s + 1 + byte_at s (jobs_place k s) * 7 ≡ length s
