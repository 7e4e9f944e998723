-- `request::sections::job_count` meets its contract.
use borrow.Author.Tests.{eq-eqb, ne_eqb}
use native.Mathlib.Omega.{arith}
use Rattle.request.specs.Format.{count_of}
use Rattle.request.specs.inside.Held.{packed}
use Rattle.request.proofs.sections.job_count.Goals as goal

pub returns-then-tasks-eq0 : goal.returns-then-tasks-eq0
unfolding count_of packed
returns-then-tasks-eq0 c = rw (eq-eqb _ _ c.if-tasks-eq0.true)

pub returns : goal.returns
unfolding count_of packed
returns c = rw (ne_eqb _ _ c.if-tasks-eq0.false, c.unfold-js.ensures) (omega arith)
