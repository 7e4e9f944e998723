-- What the search lends and what its calls come to.
use Rattle.std.specs.Prelude.{◌≡◌, Bool, true, false, cond, List, ◌++◌, ◌⊎◌, ℕ, suc, ◌+◌, ◌-◌, ◌^◌, ◌≤◌, ◌<◌, eqb, get_or, set, length, drop, replicate, Result, Ok, Err}
use Rattle.std.proofs.Math.Option.{Option, none, some}
use Rattle.base.specs.declared.reasons.Reason.{Reason}
use Rattle.base.specs.declared.reasons.Reason.TheVariants.{NoRoom, NoSchedule, Budget}
use Rattle.base.specs.Lists.{In}
use Rattle.base.specs.Loops.{through}
use Rattle.schedule.specs.declared.Recorder.{Recorder}
use Rattle.schedule.specs.Quantities.{jobs, run, deadline}
use Rattle.schedule.specs.Listing.{Feasible}
use Rattle.schedule.specs.Visiting.{Vertex, Visited, starts_of, child, starts, earliest, choices, cut_a, floor, plan_energy}
use Rattle.extras.specs.inside.Tabled.{Tabled, cap_at}
use Rattle.vertex.specs.inside.Shown.{Shows}
use Rattle.recall.specs.inside.Entries.{Right}
use Rattle.recall.specs.inside.Counts.{Counts}
use Rattle.visit.specs.declared.tally.Tally.{Tally}
use Rattle.visit.specs.declared.stages.Spent.{Spent}
use Rattle.visit.specs.declared.Found.{Found}
use Rattle.visit.specs.declared.Unfound.{Unfound}
use Rattle.visit.specs.inside.Stops.{Open, visit_by, visited_by, entered}

-- ---- the tally

-- The energy of the best is 4294967295 where there is none.
abbrev pub count_at : Tally → ℕ
count_at l = l.count

abbrev pub energy_at : Tally → ℕ
energy_at l = l.energy

abbrev pub start_at : Tally → ℕ → ℕ
start_at l j = get_or l.placed j 0

abbrev pub best_at : Tally → ℕ → ℕ
best_at l j = get_or l.best j 0

-- 1 where the visit ends at the first complete vertex.
abbrev pub stop_at : Tally → ℕ
stop_at l = cond l.stop 1 0

abbrev pub Long : Tally → Type 0
Long l = length l.placed ≡ 16

-- Nothing is counted, and there is no best.
abbrev pub begun : Bool → Tally
begun stop = record { count = 0; energy = 4294967295; placed = replicate 16 0; best = replicate 16 0; stop = stop }

-- n vertices more; and job j starting at s.
abbrev pub more_counted : ℕ → Tally → Tally
more_counted n l = record { count = l.count + n; energy = l.energy; placed = l.placed; best = l.best; stop = l.stop }

abbrev pub noted : ℕ → ℕ → Tally → Tally
noted j s l = record { count = l.count; energy = l.energy; placed = set l.placed j s; best = l.best; stop = l.stop }

-- The tally holds the best.
unfoldable pub Bests : Recorder → Tally → Option (List ℕ) → Type 0
Bests R l none = energy_at l ≡ 4294967295
Bests R l (some s) =
    (energy_at l ≡ plan_energy R s) × (energy_at l < 4294967295) × (length s ≡ jobs R) × ((j : ℕ) → j < jobs R → best_at l j ≡ get_or s j 0) × Feasible R s

-- The tally l holds what the visit has come to, within the budget.
pub record Holds (R : Recorder) (budget : ℕ) (l : Tally) (st : Visited) : Type 0 where
  pub count : count_at l ≡ st.count
  pub best : Bests R l st.best
  pub within : st.count ≤ budget

-- The tally l tells what the visit has come to at the vertex v, within the budget; it has not ended.
pub record Tells (R : Recorder) (stop : Bool) (budget : ℕ) (l : Tally) (v : Vertex) (st : Visited) : Type 0 where
  pub long : Long l
  pub stops : stop_at l ≡ cond stop 1 0
  pub count : count_at l ≡ st.count
  pub best : Bests R l st.best
  pub path : (j : ℕ) → j < jobs R → (In j v.unplaced → ⊥) → start_at l j ≡ get_or (starts_of R v) j 0
  pub within : st.count ≤ budget
  pub going : Open stop st

-- A call answered whether the visit goes no further: the tally tells st; or st has counted more than the budget, and what the visit would stop at is not found; or
-- it is found, and the tally holds st.
pub data Came (R : Recorder) (stop : Bool) (budget : ℕ) (l : Tally) (v : Vertex) (st : Visited) : Bool → Type 0 where
  done : Tells R stop budget l v st → Came R stop budget l v st false
  over : stop_at l ≡ cond stop 1 0 → budget < st.count → (stop ≡ true → energy_at l ≡ 4294967295) → Came R stop budget l v st true
  ended : stop_at l ≡ cond stop 1 0 → stop ≡ true → energy_at l < 4294967295 → Holds R budget l st → Came R stop budget l v st true

-- Whether it was for the budget that a visit ended, by the tally l and whether it did.
pub data Over (l : Tally) : Bool → Bool → Type 0 where
  goes : Over l false false
  alone : (stop_at l ≡ 1 → ⊥) → Over l true true
  told : stop_at l ≡ 1 → (x : Bool) → x ≡ eqb (energy_at l) 4294967295 → Over l true x

-- The whole visit left a tally that holds what it came to; or it counts more than the budget.
pub data Ran (R : Recorder) (stop : Bool) (budget : ℕ) (l : Tally) : Result (Unit {0}) Spent → Type 0 where
  whole : {u : Unit {0}} → Holds R budget l (visited_by R stop) → Ran R stop budget l (Ok u)
  spent : {e : Spent} → budget < (visited_by R stop).count → Ran R stop budget l (Err e)

-- n vertices more are counted, if the budget has them.
pub data Added (budget n : ℕ) (l l' : Tally) : Bool → Type 0 where
  fits : count_at l + n ≤ budget → l' ≡ more_counted n l → Added budget n l l' false
  beyond : budget < count_at l + n → l' ≡ l → Added budget n l l' true

-- ---- the memory

-- By how much the energy of the best lies above a floor; 0 where there is no best.
unfoldable pub slack_by : ℕ → ℕ → ℕ
slack_by best f = cond (eqb best 4294967295) 0 (best - f)

-- A lent memory stays as it was where n, the number of vertices, is no more than a few.
abbrev pub KeptWithin : (n : ℕ) (memory after : List ℕ) → Type 0
KeptWithin n memory after = (256 < n → ⊥) → after ≡ memory

-- What the search is lent besides: the table of extras, and a memory in which every entry is right.
pub record Lends (R : Recorder) (extras memory : List ℕ) : Type 0 where
  pub tabled : Tabled R extras
  pub right : Right (Counts R (cap_at extras)) memory

-- ---- vertices

-- The numbers l show the vertex v, with jobs unplaced; it has the floor f, and cut A spares it.
pub record Stands (R : Recorder) (l : List ℕ) (set f m : ℕ) (v : Vertex) : Type 0 where
  pub shows : Shows R l set (suc m) v
  pub floor_is : floor R v ≡ f
  pub spared : cut_a R v ≡ false

-- Job j may start at s at the vertex v.
pub record Starts (R : Recorder) (v : Vertex) (j s : ℕ) : Type 0 where
  pub job : In j v.unplaced
  pub early : earliest R v.time j ≤ s
  pub late : s + run R j ≤ deadline R j

-- The child that places job j at s, where `best` is the energy of the best: from the start `cut` on it is dropped, by cut A or cut B; before, cut A spares it, and
-- its floor is f.
pub record Tries (R : Recorder) (l : List ℕ) (best set from cut f j s m : ℕ) (v : Vertex) : Type 0 where
  pub stands : Stands R l set from m v
  pub starts : Starts R v j s
  pub dropped : cut ≤ s → (cut_a R (child R v j s) ≡ true) ⊎ (best ≤ floor R (child R v j s))
  pub spared : s < cut → (cut_a R (child R v j s) ≡ false) × (floor R (child R v j s) ≡ f)

-- The child that places job j at s and that no cut drops; f is its floor, and `left` the set of the jobs that it leaves unplaced.
pub record Enters (R : Recorder) (l : List ℕ) (left f j s m : ℕ) (v : Vertex) : Type 0 where
  pub shows : Shows R l (left + 2 ^ j) (suc m) v
  pub starts : Starts R v j s
  pub spared : cut_a R (child R v j s) ≡ false
  pub floor_is : floor R (child R v j s) ≡ f

-- There are such a vertex and what the visit has come to there.
pub record Some (R : Recorder) (budget : ℕ) (tally : Tally) (P : ℕ → Vertex → Type 0) : Type 0 where
  pub stop : Bool
  pub left : ℕ
  pub vertex : Vertex
  pub state : Visited
  pub holds : P left vertex
  pub tells : Tells R stop budget tally vertex state

-- ---- what the calls leave and answer

-- A memory that is right, and a best of no more energy.
abbrev pub Leaves : Recorder → List ℕ → List ℕ → Tally → Tally → Type 0
Leaves R extras memory l l' = Lends R extras memory × ((Long l') × (energy_at l' ≤ energy_at l))

-- The vertex stands at the time t.
abbrev pub StandsAt : Recorder → List ℕ → ℕ → ℕ → ℕ → ℕ → Vertex → Type 0
StandsAt R v set from t m u = Stands R v set from m u × (u.time ≡ t)

-- The call answered x, and left the tally l as l': from each vertex u that the numbers v show, and whatever the tally tells there, it came to what the visiting order
-- does at that place.
module _ (R : Recorder) (budget : ℕ) (v : List ℕ) (l l' : Tally) (x : Bool) where
  -- The child that places job j at s, and all below it; and the same child once it is entered.
  abbrev pub VisitCame : ℕ → ℕ → ℕ → ℕ → ℕ → ℕ → Type 0
  VisitCame set from cut f j s =
      (stop : Bool) (m : ℕ) (u : Vertex) (st : Visited) → Tries R v (energy_at l) set from cut f j s m u → Tells R stop budget l u st
      → Came R stop budget l' u (visit_by R stop m (child R u j s) st) x

  abbrev pub EnterCame : ℕ → ℕ → ℕ → ℕ → Type 0
  EnterCame left f j s =
      (stop : Bool) (m : ℕ) (u : Vertex) (st : Visited) → Enters R v left f j s m u → Tells R stop budget l u st
      → Came R stop budget l' u (entered R stop m (child R u j s) st) x

  -- All children; and those that place job j.
  abbrev pub ChoicesCame : ℕ → ℕ → ℕ → Type 0
  ChoicesCame set from t =
      (stop : Bool) (m : ℕ) (u : Vertex) (st : Visited) → Stands R v set from m u → u.time ≡ t → Tells R stop budget l u st
      → Came R stop budget l' u (choices R (visit_by R stop m) u st) x

  abbrev pub StartsCame : ℕ → ℕ → ℕ → ℕ → Type 0
  StartsCame set from t j =
      (stop : Bool) (m : ℕ) (u : Vertex) (st : Visited) → Stands R v set from m u → u.time ≡ t → Tells R stop budget l u st
      → Came R stop budget l' u (through (λ (y : ℕ). visit_by R stop m (child R u j y)) (starts R u.time j) st) x

-- ---- the answer

abbrev pub refusal : Reason → ℕ → Result Found Unfound
refusal k c = Err (record { reason = k; count = c })

abbrev pub success : ℕ → ℕ → Result Found Unfound
success e c = Ok (record { energy = e; count = c })

-- How many vertices an answer tells.
abbrev pub count_in : Result Found Unfound → ℕ
count_in (Ok f) = f.count
count_in (Err f) = f.count

-- 15 where the list is too short, then 20, then 19; else the starts of the best of a visit that comes to st, with its energy. What is lent beyond stays as it was.
pub data Finds (R : Recorder) (st : Visited) (budget : ℕ) (lent : List ℕ) : Result Found Unfound → List ℕ → Type 0 where
  short : length lent < jobs R → Finds R st budget lent (refusal NoRoom 0) lent
  beyond : jobs R ≤ length lent → budget < st.count → Finds R st budget lent (refusal Budget budget) lent
  nowhere : jobs R ≤ length lent → st.count ≤ budget → st.best ≡ none → Finds R st budget lent (refusal NoSchedule st.count) lent
  found : {s : List ℕ} → jobs R ≤ length lent → st.count ≤ budget → st.best ≡ some s
      → Finds R st budget lent (success (plan_energy R s) st.count) (s ++ drop (jobs R) lent)
