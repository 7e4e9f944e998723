-- `request::jobs::listed_jobs` meets its contract.
use mathlib.Core.Path.{◌≡◌}
use Rattle.request.specs.Format.{listed}
use Rattle.request.specs.inside.Held.{packed}
use Rattle.request.proofs.jobs.listed_jobs.Given as goal

abbrev pub invariant-loop-j : goal.invariant-loop-j
invariant-loop-j l = l.js ≡ packed (listed l.s l.j l.from)
