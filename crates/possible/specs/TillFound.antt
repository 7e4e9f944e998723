-- Whether there is a plan, whatever it costs (docs/RULES.md, rules 60 to 63): what is found, said without the tree; and the visit that ends once it has found a
-- schedule, without a budget. The count of vertices is its one part that a promise speaks of. Vertices, children, cut A and counting are the search's own.
use Rattle.std.specs.Prelude.{◌≡◌, cond, List, ◌⊎◌, ℕ, zero, suc}
use Rattle.std.proofs.Math.Option.{Option, none, some}
use Rattle.schedule.specs.declared.Recorder.{Recorder}
use Rattle.schedule.specs.Quantities.{jobs}
use Rattle.schedule.specs.Listing.{Feasible, Earlier}
use Rattle.schedule.specs.Visiting.{Vertex, Visited, Walk, counted, root, starts_of, choices, cut_a}

-- s is the first of all feasible schedules, whatever they cost (rule 61).
pub record First (R : Recorder) (s : List ℕ) : Type 0 where
  pub feasible : Feasible R s
  pub first : (s' : List ℕ) → Feasible R s' → (s ≡ s') ⊎ Earlier R s s'

-- A walk that is taken only as long as nothing is found (rule 62).
unfoldable pub unless_found : Option (List ℕ) → Walk → Walk
unless_found none f st = f st
unless_found (some s) f st = st

module _ (R : Recorder) where
  -- A complete vertex is counted, and its starts are found.
  abbrev pub found : Vertex → Walk
  found v st = record { count = suc st.count; best = some (starts_of R v) }

  -- A vertex that cut A drops is only counted. (`below` is handed over as a function, so that the checker does not work it out where the vertex is dropped.)
  unfoldable pub enter : Vertex → Walk → Walk
  enter v below st = cond (cut_a R v) counted below st

  -- A vertex with m jobs unplaced, and all below it, in the search's order, till one is found (rule 62).
  unfoldable pub visit_till_found : ℕ → Vertex → Walk
  visit_till_found zero v st = unless_found st.best (enter v (found v)) st
  visit_till_found (suc m) v st = unless_found st.best (enter v (λ w. choices R (visit_till_found m) v (counted w))) st

  -- The whole visit.
  unfoldable pub visited_till_found : Visited
  visited_till_found = visit_till_found (jobs R) (root R) (record { count = 0; best = none })

  -- How many vertices it counts (rule 63): the root and the complete vertex are among them; where nothing is found, all that the visit reaches, those that cut A drops too.
  abbrev pub vertices_till_found : ℕ
  vertices_till_found = visited_till_found.count
