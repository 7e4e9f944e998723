use mathlib.Core.Path.{sym}
use native.Mathlib.Omega.{arith}
use Rattle.std.proofs.lemmas.Result.{err_from_is_err_and}
use Rattle.least.specs.inside.Outcome.{recorder}
use Rattle.least.proofs.Seeking.{sought_stopped, sought_passed, sought_next, sought_found, sought_all}
use Rattle.least.proofs.reading.first_child.Goals as goal
use Rattle.least.proofs.reading.first_child.Goals.{then-has+in_ok-start+in_default, else-has}

pub returns-in_err-start-clause-answer : goal.returns-in_err-start-clause-answer
returns-in_err-start-clause-answer c =
    λ m u h q g.
    rw (err_from_is_err_and c.from_residual.result c.from_residual.ensures.1).1
    (sought_stopped (recorder c.args.search.now) c.requires.0.tabled.valid _ _ _ _ _ _ _ _ c.loop-j.invariant.sought (omega (arith, c.job_count-j-end.ensures)) c.in_err-start.ensures.answer m u h q)

pub returns-in-Some-clause-answer : goal.returns-in-Some-clause-answer
returns-in-Some-clause-answer c =
    λ m u h q g.
    sought_found (recorder c.args.search.now) c.requires.0.tabled.valid _ _ _ _ 0 _ _ _ c.loop-j.invariant.sought (omega (arith, c.job_count-j-end.ensures)) (sym c.if-has.ensures) _ _ (rw c.in-Some.is at c.in_ok-start.ensures.answer) m u h q g

pub loop-j-preserved : goal.loop-j-preserved
loop-j-preserved c =
    let R = recorder c.args.search.now in
    let valid = c.requires.0.tabled.valid in
    let i = c.loop-j.invariant in
    elim c.if-has.branch [
      | then-has+in_ok-start+in_default w ↦
          let e = w.in_ok-start.ensures in
          rw (w.memory-is, w.entered-is)
          (record {
            lent = e.lent.0;
            within = e.lent.1;
            sought = sought_next R valid _ _ _ _ 0 _ _ _ i.sought (omega (arith, c.job_count-j-end.ensures)) _ (rw w.in_default.is at e.answer);
          })
      | else-has w ↦
          rw (w.memory-is, w.entered-is)
          (record { lent = i.lent; within = i.within; sought = sought_passed R valid _ _ _ _ 0 _ _ _ i.sought (sym w.if-has.ensures) })
    ]

pub returns-clause-answer : goal.returns-clause-answer
returns-clause-answer c =
    λ m u h q g.
    absurd (sought_all (recorder c.args.search.now) c.requires.0.tabled.valid _ _ _ _ 0 _ _ _ c.loop-j.invariant.sought (omega (arith, c.job_count-j-end.ensures)) m u h q g)
