-- `doors::door_build::opens_to` meets its contract.
use mathlib.Core.Path.{sym, ◌∙◌}
use mathlib.Core.Bool.{true≢false}
use native.Mathlib.Omega.{arith}
use borrow.Author.Tests.{eqb-true, eqb-false}
use Rattle.table_bytes.proofs.Sizes.{tables_long}
use Rattle.doors.proofs.door_build.opens_to.Goals as goal
use Rattle.doors.proofs.door_build.opens_to.Goals.{then-res-lt-RESULT-via-then-res-lt-RESULT, then-res-lt-RESULT-via-else-res-lt-RESULT+then-not-is_tables}

pub returns-then-res-lt-RESULT : goal.returns-then-res-lt-RESULT
returns-then-res-lt-RESULT c =
    elim c.then-res-lt-RESULT.branch [
      | then-res-lt-RESULT-via-then-res-lt-RESULT w ↦ (λ e. absurd (true≢false (sym e)), λ e o. omega (arith, o.2, w.if-res-lt-RESULT.true))
      | then-res-lt-RESULT-via-else-res-lt-RESULT+then-not-is_tables w ↦ (λ e. absurd (true≢false (sym e)), λ e o. w.is_tables.ensures.1 w.if-not-is_tables.true o.0)
    ]

pub bounds-given-0 : goal.bounds-given-0
bounds-given-0 c = omega (arith, tables_long c.args.given.now (c.is_tables.ensures.0 c.if-not-is_tables.false))

pub pair_at-requires : goal.pair_at-requires
pair_at-requires c = omega (arith, tables_long c.args.given.now (c.is_tables.ensures.0 c.if-not-is_tables.false))

pub returns-then-given-eq1 : goal.returns-then-given-eq1
returns-then-given-eq1 c =
    let n = c.pair_at in (
      λ e. (
        c.is_tables.ensures.0 c.if-not-is_tables.false,
        (c.if-given-eq1.true, sym n.ensures ∙ eqb-true n.result 0 e),
        c.if-res-lt-RESULT.false,
      ),
      λ e o. eqb-false n.result 0 e (n.ensures ∙ o.1.1),
    )

pub returns-else-given-eq1 : goal.returns-else-given-eq1
returns-else-given-eq1 c = (λ e. absurd (c.if-given-eq1.false (eqb-true _ 1 e)), λ e o. c.if-given-eq1.false o.1.0)
