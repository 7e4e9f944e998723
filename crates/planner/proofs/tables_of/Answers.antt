-- `planner::tables_of` meets its contract.
use mathlib.Core.Path.{sym}
use Rattle.std.proofs.lemmas.Result.{err_from_is_err_and}
use Rattle.planner.specs.Promises as P
use Rattle.planner.proofs.Reading.{listed_whole}
use Rattle.planner.proofs.tables_of.Goals as goal

pub returns-in_err-recorder : goal.returns-in_err-recorder
returns-in_err-recorder c =
    let p = err_from_is_err_and c.from_residual.result c.from_residual.ensures.1 in
    rw (p.1, p.2) (P.OfFile.refused (sym c.in_err-recorder.ensures))

pub tables_in-requires : goal.tables_in-requires
tables_in-requires c = listed_whole _ _ (sym c.in_ok-recorder.ensures)

pub returns : goal.returns
returns c = rw c.tables_in.ensures (P.OfFile.read (sym c.in_ok-recorder.ensures) P.TablesOf.listed)
