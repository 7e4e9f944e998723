-- `calls_step::records::powers_fault` meets its contract.
use borrow.Author.Tests.{le-leb, lt-leb}
use Rattle.calls_step.specs.StepCall.{powers_fault}
use Rattle.calls_step.proofs.records.powers_fault.Goals as goal
use Rattle.calls_step.proofs.records.powers_fault.Goals.{then-moving-pair_at-via-then-moving-pair_at, then-moving-pair_at-via-else-moving-pair_at+then-pair_at-moving}

pub returns-then-moving-pair_at : goal.returns-then-moving-pair_at
unfolding powers_fault
returns-then-moving-pair_at c =
    rw (← c.pair_at-moving.ensures, ← c.pair_at.ensures)
    (elim c.then-moving-pair_at.branch [
      | then-moving-pair_at-via-then-moving-pair_at w ↦ rw (le-leb c.pair_at-moving.result c.pair_at.result w.if-moving-pair_at.true)
      | then-moving-pair_at-via-else-moving-pair_at+then-pair_at-moving w ↦ let n = w.pair_at-else-moving-pair_at in
          rw (← n.ensures, lt-leb c.pair_at-moving.result c.pair_at.result w.if-moving-pair_at.false, le-leb n.result c.pair_at-moving.result w.if-pair_at-moving.true)
    ])

pub returns : goal.returns
unfolding powers_fault
returns c =
    let n = c.pair_at-else-moving-pair_at in
    rw (← c.pair_at-moving.ensures, ← c.pair_at.ensures, ← n.ensures, lt-leb c.pair_at-moving.result c.pair_at.result c.if-moving-pair_at.false, lt-leb n.result c.pair_at-moving.result c.if-pair_at-moving.false)
