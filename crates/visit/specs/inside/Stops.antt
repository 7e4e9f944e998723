-- The visiting order with a stop: it ends at the first complete vertex, where it is told to. Where it is not, it is the search's own (proofs/Stopping).
use Rattle.std.specs.Prelude.{◌≡◌, Bool, true, false, List, ℕ, zero, suc}
use Rattle.std.proofs.Math.Option.{Option, none, some}
use Rattle.schedule.specs.declared.Recorder.{Recorder}
use Rattle.schedule.specs.Quantities.{jobs}
use Rattle.schedule.specs.Visiting.{Vertex, Visited, Walk, root, starts_of, better, choices, complete, examine}

-- The visit has not ended: it stops at the first complete vertex, and there has been none, or it does not stop.
abbrev pub Open : Bool → Visited → Type 0
Open stop st = stop ≡ true → st.best ≡ none

-- A walk that is taken unless the visit has ended.
unfoldable pub unless_ended : Bool → Option (List ℕ) → Walk → Walk
unless_ended stop none f st = f st
unless_ended false (some s) f st = f st
unless_ended true (some s) f st = st

module _ (R : Recorder) (stop : Bool) where
  -- A vertex with m jobs unplaced, and all below it.
  unfoldable pub visit_by : ℕ → Vertex → Walk
  visit_by zero v st = unless_ended stop st.best (complete R v) st
  visit_by (suc m) v st = unless_ended stop st.best (examine R v (choices R (visit_by m) v)) st

  -- The whole visit.
  unfoldable pub visited_by : Visited
  visited_by = visit_by (jobs R) (root R) (record { count = 0; best = none })

  -- What the visit of a vertex that no cut drops does after it is counted.
  unfoldable pub entered : ℕ → Vertex → Walk
  entered zero v st = record { count = st.count; best = better R st.best (starts_of R v) }
  entered (suc m) v st = choices R (visit_by m) v st
