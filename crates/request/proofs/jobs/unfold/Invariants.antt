-- `request::jobs::unfold` meets its contract.
use mathlib.Core.Path.{◌≡◌}
use Rattle.request.specs.Format.{unfolded}
use Rattle.request.specs.inside.Held.{packed}
use Rattle.request.proofs.jobs.unfold.Given as goal

abbrev pub invariant-loop-t : goal.invariant-loop-t
invariant-loop-t l = l.js ≡ packed (unfolded l.s l.tasks l.from l.t)
