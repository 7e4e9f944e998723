-- `doors::door_build::door_build` meets its contract.
use mathlib.Core.Path.{subst}
use Rattle.tables.specs.declared.Tables.{Tables}
use Rattle.catalogue.specs.Building.{others, Built}
use Rattle.planner.specs.Answers as A
use Rattle.doorway.specs.Doors.{shut, answered}
use Rattle.doors.proofs.door_build.door_build.Goals as goal

pub returns-then-not-opens_to : goal.returns-then-not-opens_to
returns-then-not-opens_to c = shut (c.opens_to.ensures.1 c.if-not-opens_to.true)

pub tables_from-t-requires : goal.tables_from-t-requires
tables_from-t-requires c = (c.opens_to.ensures.0 c.if-not-opens_to.false).0

pub returns : goal.returns
returns c =
    let s = c.args in
    let told = c.tell.ensures in
    let w = c.build-built in
    rw (told.0, told.1, c.told.ensures)
    (answered (c.opens_to.ensures.0 c.if-not-opens_to.false)
    (subst (λ (T : Tables). Built s.parts.now s.wanted.now (others T.horizon T.tasks T.jobs) s.out.now (A.answered w.result) w.new.out) c.tables_from-t.ensures w.ensures))
