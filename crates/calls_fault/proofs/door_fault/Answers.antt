-- `calls_fault::door_fault` meets its contract.
use mathlib.Core.Path.{subst}
use native.Mathlib.Omega.{arith}
use Rattle.tables.specs.declared.Tables.{Tables}
use Rattle.faults.specs.Places.{judged, TablesFault}
use Rattle.calls_fault.specs.FaultCall.{shut, answered}
use Rattle.calls_fault.proofs.door_fault.Goals as goal
use Rattle.calls_fault.proofs.door_fault.Goals.{then-res-lt-PLACE-via-then-res-lt-PLACE, then-res-lt-PLACE-via-else-res-lt-PLACE+then-not-is_tables}

pub returns-then-res-lt-PLACE : goal.returns-then-res-lt-PLACE
returns-then-res-lt-PLACE c = elim c.then-res-lt-PLACE.branch [
  | then-res-lt-PLACE-via-then-res-lt-PLACE w ↦ shut (λ o. omega (arith, o.1, w.if-res-lt-PLACE.true))
  | then-res-lt-PLACE-via-else-res-lt-PLACE+then-not-is_tables w ↦ shut (λ o. w.is_tables.ensures.1 w.if-not-is_tables.true o.0)
]

pub tables_from-requires : goal.tables_from-requires
tables_from-requires c = c.is_tables.ensures.0 c.if-not-is_tables.false

pub returns : goal.returns
returns c =
    let it = c.tell_fault.ensures in
    let found = c.fault_of_tables in
    rw (it.0, it.1)
    (answered (c.is_tables.ensures.0 c.if-not-is_tables.false) c.if-res-lt-PLACE.false
    (subst (λ (T : Tables). TablesFault T (judged found.result)) c.tables_from.ensures found.ensures))
