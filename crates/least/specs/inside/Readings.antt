-- What reading a schedule off comes to, step by step.
use Rattle.std.specs.Prelude.{◌≡◌, Bool, true, false, List, ℕ, ◌+◌, ◌*◌, ◌≤◌, ◌<◌, length, replicate}
use Rattle.std.proofs.Math.Option.{Option, some}
use Rattle.base.specs.Lists.{In}
use Rattle.schedule.specs.declared.Recorder.{Recorder}
use Rattle.schedule.specs.Quantities.{jobs, Valid}
use Rattle.schedule.specs.Visiting.{Vertex, starts, written}
use Rattle.value.specs.inside.Leasts.{least_of, via_child}
use Rattle.value.proofs.Reading.{Settles}
use Rattle.least.specs.inside.Shown.{Shows}
use Rattle.least.specs.Effort.{most_of, most_vertices}

-- Whether o is the goal.
abbrev pub Hit : ℕ → Option ℕ → Bool → Type 0
Hit goal o true = o ≡ some goal
Hit goal o false = o ≡ some goal → ⊥

-- x is the first start of job j with which v has the goal; or none has it.
pub record First (R : Recorder) (m : ℕ) (v : Vertex) (j goal x : ℕ) : Type 0 where
  pub start : In x (starts R v.time j)
  pub hits : via_child R m v j x ≡ some goal
  pub none_before : (y : ℕ) → y < x → In y (starts R v.time j) → via_child R m v j y ≡ some goal → ⊥

abbrev pub Nowhere : Recorder → ℕ → Vertex → ℕ → ℕ → Type 0
Nowhere R m v j goal = (y : ℕ) → In y (starts R v.time j) → via_child R m v j y ≡ some goal → ⊥

-- Part of the schedule is read off: the numbers l show the vertex that it has come to, whose least is the goal, and whose starts stand in s; what it settles is the
-- first of the least. And so many vertices were entered that those for each job that is left fit in.
pub record Reads (R : Recorder) (l s : List ℕ) (set time goal entered : ℕ) : Type 0 where
  pub left : ℕ
  pub vertex : Vertex
  pub shows : Shows R l set left vertex
  pub time_is : vertex.time ≡ time
  pub goal_is : least_of R left vertex ≡ some goal
  pub few : left ≤ jobs R
  pub valid : Valid R
  pub settles : Settles R valid vertex
  pub long : length s ≡ 16
  pub starts_are : s ≡ written vertex.placed (replicate 16 0)
  pub room : entered + left * most_of R (jobs R) 0 ≤ most_vertices R
