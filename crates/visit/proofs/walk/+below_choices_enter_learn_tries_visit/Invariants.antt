use mathlib.Core.Path.{◌≡◌}
use Prim.Native.Nat.{ℕ, suc, ◌+◌, ◌-◌, ◌*◌, ◌≤◌, ◌/◌, ◌^◌}
use Rattle.flat.specs.inside.Flat.{recorder_of}
use mathlib.Core.Bool.{Bool}
use lib.ListN.{length}
use Rattle.base.specs.Lists.{up_from}
use Rattle.schedule.specs.Quantities.{deadline, run}
use Rattle.schedule.specs.Visiting.{Vertex, Visited, child}
use Rattle.schedule.specs.Visiting as order
use Rattle.visit.specs.inside.Stops.{visit_by}
use Rattle.latest.specs.inside.Sets.{members, size_of}
use Rattle.visit.specs.inside.Lent.{Long, energy_at, Lends, Tells, Stands}
use Rattle.visit.proofs.Visits.{job_walk}
use Rattle.visit.proofs.Going.{Going}
use Rattle.visit.proofs.Entering.{Cuts}
use Rattle.visit.proofs.walk.+below_choices_enter_learn_tries_visit.Given as goal

-- What falls is the number of unplaced jobs: how many the set has, and `left` for an entered child.
abbrev pub decreases-below : goal.decreases-below
decreases-below l = 6 * size_of l.place.set + 4

abbrev pub decreases-choices : goal.decreases-choices
decreases-choices l = 6 * size_of l.place.set + 2

abbrev pub decreases-enter : goal.decreases-enter
decreases-enter l = 6 * size_of l.left + 5

abbrev pub decreases-learn : goal.decreases-learn
decreases-learn l = 6 * size_of l.place.set + 3

abbrev pub decreases-tries : goal.decreases-tries
decreases-tries l = 6 * size_of l.place.set + 1

abbrev pub decreases-visit : goal.decreases-visit
decreases-visit l = 6 * size_of l.place.set

abbrev pub invariant-choices-loop-j : goal.invariant-choices-loop-j
invariant-choices-loop-j l = (l.p ≡ 2 ^ l.j) × (l.rest ≡ l.place.set / 2 ^ l.j) × (Long l.tally) × (energy_at l.tally ≤ energy_at l.initial.tally)
    × ((stop : Bool) (m : ℕ) (u : Vertex) (st : Visited) → Stands (recorder_of l.search.r.now) l.place.v.now l.place.set l.place.from m u → u.time ≡ l.place.time → Tells (recorder_of l.search.r.now) stop l.search.budget l.initial.tally u st
    → Going (recorder_of l.search.r.now) stop l.search.budget u (job_walk (recorder_of l.search.r.now) stop m u) l.tally (members l.j (l.n - l.j) l.rest) (order.choices (recorder_of l.search.r.now) (visit_by (recorder_of l.search.r.now) stop m) u st))
    × Lends (recorder_of l.search.r.now) l.search.extras.now l.memory × (length l.memory ≡ length l.initial.memory)

abbrev pub invariant-tries-loop-s : goal.invariant-tries-loop-s
invariant-tries-loop-s l = (l.initial.s ≤ l.s) × (Long l.tally) × (energy_at l.tally ≤ energy_at l.initial.tally) × Cuts (recorder_of l.search.r.now) l.place.v.now (energy_at l.tally) l.place.from l.j.0 l.initial.cut l.cut × (l.cut ≤ l.initial.cut)
    × ((stop : Bool) (m : ℕ) (u : Vertex) (st : Visited) → Stands (recorder_of l.search.r.now) l.place.v.now l.place.set l.place.from m u → u.time ≡ l.place.time → Tells (recorder_of l.search.r.now) stop l.search.budget l.initial.tally u st
    → Going (recorder_of l.search.r.now) stop l.search.budget u (λ (x : ℕ). visit_by (recorder_of l.search.r.now) stop m (child (recorder_of l.search.r.now) u l.j.0 x)) l.tally (up_from l.s (suc (deadline (recorder_of l.search.r.now) l.j.0) - (l.s + run (recorder_of l.search.r.now) l.j.0))) (job_walk (recorder_of l.search.r.now) stop m u l.j.0 st))
    × (l.s ≤ 65536) × Lends (recorder_of l.search.r.now) l.search.extras.now l.memory × (length l.memory ≡ length l.initial.memory)

abbrev pub decreases-tries-loop-s : goal.decreases-tries-loop-s
decreases-tries-loop-s l = 65536 - l.s
