-- `request::jobs::release` meets its contract.
use borrow.Author.Tests.{eq-eqb, ne_eqb}
use mathlib.Core.Path.{◌≡◌, ap, ◌∙◌}
use Rattle.tables.specs.declared.TaskRecord.{TaskRecord}
use Rattle.request.specs.inside.Held.{released_to}
use Rattle.request.proofs.jobs.release.Goals as goal

pub nonzero_rem-t : goal.nonzero_rem-t
nonzero_rem-t c = rw c.task_of-k.ensures c.requires.1

pub job_of-requires : goal.job_of-requires
job_of-requires c = rw c.task_of-k.ensures c.requires.2

pub returns-then-t-k-eq0 : goal.returns-then-t-k-eq0
unfolding released_to
returns-then-t-k-eq0 c =
    let a = c.args in
    let k = c.task_of-k in
    let here : c.push.new.js ≡ released_to a.js.now k.result a.t = rw (c.push.ensures, c.job_of.ensures, eq-eqb _ _ c.if-t-k-eq0.true) in
    here ∙ ap (λ (x : TaskRecord). released_to a.js.now x a.t) k.ensures

pub returns-else-t-k-eq0 : goal.returns-else-t-k-eq0
unfolding released_to
returns-else-t-k-eq0 c =
    let a = c.args in
    let k = c.task_of-k in
    let here : a.js.now ≡ released_to a.js.now k.result a.t = rw (ne_eqb _ _ c.if-t-k-eq0.false) in
    here ∙ ap (λ (x : TaskRecord). released_to a.js.now x a.t) k.ensures
