-- The search (docs/RULES.md, rules 40 to 46): the visiting order, without a budget. Of its parts the promises speak of the count of vertices, `vertices`; the visit that ends at a schedule (possible/specs/TillFound) takes vertices, children and cut A from here.
use Rattle.std.specs.Prelude.{Bool, false, cond, ◌||◌, List, [], ◌∷◌, ◌++◌, ℕ, zero, suc, ◌+◌, ◌-◌, ◌*◌, max, leb, ltb, set, replicate}
use Rattle.std.proofs.Math.Option.{Option, none, some}
use Rattle.base.specs.Lists.{up_from, remove}
use Rattle.base.specs.Loops.{through}
use Rattle.base.specs.Sums.{total, sum}
use Rattle.device.specs.Row.{Letter, deep, row_of, energy_of, pattern}
use Rattle.schedule.specs.declared.Recorder.{Recorder}
use Rattle.schedule.specs.Quantities.{device, jobs, release, deadline, run, uses}
use Rattle.schedule.specs.Listing.{Place, place, used, uses_of}

-- A vertex (rule 40): jobs placed one after the other, and the time at which the last of them ends, 0 where there is none. The unplaced jobs are kept
-- beside, rising.
pub record Vertex : Type 0 where
  pub placed : List Place
  pub time : ℕ
  pub unplaced : List ℕ

-- What the visit has come to: the vertices counted, and the starts of the best.
pub record Visited : Type 0 where
  pub count : ℕ
  pub best : Option (List ℕ)

-- What the visit of a vertex does to it.
abbrev pub Walk : Type 0
Walk = Visited → Visited

-- A vertex is counted when it is reached (rule 42).
abbrev pub counted : Walk
counted st = record { count = suc st.count; best = st.best }

-- The starts by job number, where each place of a sequence is written in turn.
unfoldable pub written : List Place → List ℕ → List ℕ
written [] s = s
written (p ∷ ps) s = written ps (set s p.job p.start)

module _ (R : Recorder) where
  abbrev pub root : Vertex
  root = record { placed = []; time = 0; unplaced = up_from 0 (jobs R) }

  -- The child where job j starts at x.
  abbrev pub child : Vertex → ℕ → ℕ → Vertex
  child v j x = record { placed = v.placed ++ place j x ∷ []; time = x + run R j; unplaced = remove j v.unplaced }

  abbrev pub starts_of : Vertex → List ℕ
  starts_of v = written v.placed (replicate (jobs R) 0)

  -- The starts of a job after time t (rule 41): from the first tick at which it may start up to the last from which it meets its deadline.
  abbrev pub earliest : ℕ → ℕ → ℕ
  earliest t j = max t (release R j)

  unfoldable pub starts : ℕ → ℕ → List ℕ
  starts t j = up_from (earliest t j) (suc (deadline R j) - (earliest t j + run R j))

  -- The children of a vertex (rule 41), job by job and start by start, each visited by f.
  unfoldable pub choices : (Vertex → Walk) → Vertex → Walk
  choices f v = through (λ j. through (λ x. f (child v j x)) (starts v.time j)) v.unplaced

  -- Cut A (rule 43): an unplaced job can no longer meet its deadline, or the unplaced jobs together no longer fit the horizon.
  unfoldable pub late : ℕ → List ℕ → Bool
  late t [] = false
  late t (j ∷ l) = ltb (deadline R j) (earliest t j + run R j) || late t l

  unfoldable pub cut_a : Vertex → Bool
  cut_a v = late v.time v.unplaced || ltb R.horizon (v.time + total (run R) v.unplaced)

  -- The row of device k in the schedule s, and the energy of all rows.
  abbrev pub plan_row : List ℕ → ℕ → List Letter
  plan_row s k = row_of R.round (device R k) (uses_of R s k)

  unfoldable pub plan_energy : List ℕ → ℕ
  plan_energy s = sum R.devices.count (λ k. energy_of R.round (device R k) (uses_of R s k))

  -- A complete schedule becomes the best where it is the first, or costs less (rule 44).
  unfoldable pub better : Option (List ℕ) → List ℕ → Option (List ℕ)
  better none s = some s
  better (some b) s = cond (ltb (plan_energy s) (plan_energy b)) (some s) (some b)

  -- The end of the last placed use of device k; e where there is none.
  unfoldable pub last_end : ℕ → ℕ → List Place → ℕ
  last_end k e [] = e
  last_end k e (p ∷ ps) = last_end k (cond (uses R k p.job) (p.start + run R p.job) e) ps

  -- The start of its first placed use; 0 where there is none.
  unfoldable pub first_start : ℕ → List Place → ℕ
  first_start k [] = 0
  first_start k (p ∷ ps) = cond (uses R k p.job) p.start (first_start k ps)

  -- The tick from which device k has been paid: in a round what lies before its first use is no gap of its own (rule 89), in a list it is one, from tick 0 on.
  unfoldable pub since : ℕ → List Place → ℕ
  since k ps = cond R.round (first_start k ps) 0

  -- The ticks for which job j uses device k.
  abbrev pub ticks : ℕ → ℕ → ℕ
  ticks k j = cond (uses R k j) (run R j) 0

  -- The floor of one device (rules 46 and 89): up to the start of its first placed use, in a round, the power of its deepest sleep (Ps) for each tick; from there the
  -- least energy up to the end of its last placed use; after that the working power for each tick that the unplaced jobs will use it, and for every other tick up to
  -- H the power of its deepest sleep.
  unfoldable pub device_floor : ℕ → Vertex → ℕ
  device_floor k v =
      let a = since k v.placed in
      let e = last_end k 0 v.placed in
      let ahead = total (ticks k) v.unplaced in
      deep (device R k) * a + energy_of false (device R k) (pattern (used R k v.placed) a (e - a))
      + ((device R k).pw * ahead + deep (device R k) * (R.horizon - e - ahead))

  unfoldable pub floor : Vertex → ℕ
  floor v = sum R.devices.count (λ k. device_floor k v)

  -- Cut B (rule 45): the floor is no less than the energy of the best, so that nothing below the vertex can cost less than that.
  unfoldable pub cut_b : Vertex → Option (List ℕ) → Bool
  cut_b v none = false
  cut_b v (some b) = leb (plan_energy b) (floor v)

  -- A vertex with no job unplaced, and one whose children `below` examines where no cut is made.
  unfoldable pub complete : Vertex → Walk
  complete v st = cond (cut_a v) (counted st) (record { count = suc st.count; best = better st.best (starts_of v) })

  unfoldable pub examine : Vertex → Walk → Walk
  examine v below st =
      let next = below (counted st) in
      cond (cut_a v) (counted st) (cond (cut_b v st.best) (counted st) next)

  -- A vertex with m jobs unplaced, and all below it: each child and what is below it before the next child.
  unfoldable pub visit : ℕ → Vertex → Walk
  visit zero v = complete v
  visit (suc m) v = examine v (choices (visit m) v)

  -- The whole visit.
  unfoldable pub visited : Visited
  visited = visit (jobs R) root (record { count = 0; best = none })

  -- The vertices that the visiting order counts.
  abbrev pub vertices : ℕ
  vertices = visited.count
