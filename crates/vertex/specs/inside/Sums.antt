-- How late a child of a vertex may end, by the two smallest last starts of its unplaced jobs.
use Rattle.std.specs.Prelude.{cond, ℕ, ◌-◌, min, eqb, ltb}
use Rattle.base.specs.declared.JobNumber.{JobNumber}
use Rattle.vertex.specs.declared.dues.Dues.{Dues}

-- The two least with job j's, which is x.
unfoldable pub due_with : Dues → JobNumber → ℕ → Dues
due_with d j x =
    cond (ltb x d.first) (record { at = j; first = x; second = d.first })
    (record { at = d.at; first = d.first; second = min d.second x })

-- The least without job j, by the two least.
unfoldable pub due_for : Dues → ℕ → ℕ
due_for d j = cond (eqb d.at.0 j) d.second d.first

-- The latest time of a child that places job j, where h is the horizon and the others run for x ticks.
unfoldable pub limit_for : ℕ → ℕ → Dues → ℕ → ℕ
limit_for h x d j = min (h - x) (due_for d j)
