-- A walk over the tree of schedule/specs/Visiting that enters no vertex below which no schedule stands. Nobody need believe it: no promise speaks of it.
use Rattle.std.specs.Prelude.{Bool, cond, List, ℕ, ◌-◌, ◌^◌, ltb}
use Rattle.base.specs.Lists.{up_from}
use Rattle.base.specs.Loops.{through}
use Rattle.base.specs.Sums.{total}
use Rattle.schedule.specs.declared.Recorder.{Recorder}
use Rattle.schedule.specs.Quantities.{release, deadline, run}
use Rattle.schedule.specs.Visiting.{Vertex, Walk, child, earliest}
use Rattle.latest.specs.inside.Latest.{slot, latest_of}

-- The number of a set of jobs.
abbrev pub set_of : List ℕ → ℕ
set_of u = total (λ j. 2 ^ j) u

module _ (R : Recorder) where
  -- The unplaced jobs can still be run.
  unfoldable pub alive : Vertex → Bool
  alive v = ltb v.time (latest_of R (set_of v.unplaced))

  unfoldable pub spared : (Vertex → Walk) → Vertex → Walk
  spared f v = cond (alive v) (f v) (λ st. st)

  -- The starts of job j after which the others can still be run: up to the last of them, with no test at any.
  unfoldable pub alive_starts : Vertex → ℕ → List ℕ
  alive_starts v j =
      up_from (earliest R v.time j)
      (slot (release R j) (deadline R j) (run R j) (latest_of R (set_of v.unplaced - 2 ^ j)) - earliest R v.time j)

  unfoldable pub alive_choices : (Vertex → Walk) → Vertex → Walk
  alive_choices f v = through (λ j. through (λ x. f (child R v j x)) (alive_starts v j)) v.unplaced
