-- `doors::door_write::door_write` meets its contract.
use mathlib.Core.Path.{subst}
use native.Mathlib.Omega.{arith}
use Rattle.tables.specs.declared.Tables.{Tables}
use Rattle.planner.specs.Answers as A
use Rattle.planner.specs.Promises.{Written}
use Rattle.doorway.specs.Doors.{shut, answered}
use Rattle.doors.proofs.door_write.door_write.Goals as goal
use Rattle.doors.proofs.door_write.door_write.Goals.{then-res-lt-RESULT-via-then-res-lt-RESULT, then-res-lt-RESULT-via-else-res-lt-RESULT+then-not-is_tables}

pub returns-then-res-lt-RESULT : goal.returns-then-res-lt-RESULT
returns-then-res-lt-RESULT c =
    elim c.then-res-lt-RESULT.branch [
      | then-res-lt-RESULT-via-then-res-lt-RESULT w ↦ shut (λ o. omega (arith, o.1, w.if-res-lt-RESULT.true))
      | then-res-lt-RESULT-via-else-res-lt-RESULT+then-not-is_tables w ↦ shut (λ o. w.is_tables.ensures.1 w.if-not-is_tables.true o.0)
    ]

pub tables_from-requires : goal.tables_from-requires
tables_from-requires c = c.is_tables.ensures.0 c.if-not-is_tables.false

pub returns : goal.returns
returns c =
    let told = c.tell.ensures in
    let w = c.write in
    rw (told.0, told.1, c.told.ensures)
    (answered (c.is_tables.ensures.0 c.if-not-is_tables.false, c.if-res-lt-RESULT.false)
    (subst (λ (T : Tables). Written T c.args.out.now (A.answered w.result) w.new.out) c.tables_from.ensures w.ensures))
