-- After i tasks the jobs are those of the ticks before and what these tasks release at t.
use mathlib.Core.Path.{◌≡◌}
use mathlib.Core.List.{◌++◌}
use Rattle.request.specs.Format.{unfolded, released_at}
use Rattle.request.specs.inside.Held.{packed}
use Rattle.request.proofs.jobs.tick.Given as goal

abbrev pub invariant-loop-i : goal.invariant-loop-i
invariant-loop-i l = l.js ≡ packed (unfolded l.s l.tasks l.from l.t ++ released_at l.s l.i l.from l.t)
