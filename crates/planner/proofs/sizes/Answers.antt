-- `planner::sizes` meets its contract.
use mathlib.Core.List.{List}
use mathlib.Core.Path.{sym}
use Prim.Native.Nat.{ℕ, ◌≤◌}
use Rattle.schedule.specs.declared.Recorder.{Recorder}
use Rattle.tables.specs.Layout.{tables_of, tables_as}
use Rattle.request.proofs.Accepted.{accepted_valid}
use Rattle.std.proofs.lemmas.Result.{err_from_is_err_and}
use Rattle.planner.specs.Promises as P
use Rattle.planner.specs.Promises.{Reads}
use Rattle.planner.proofs.Reading.{listed_whole}
use Rattle.planner.proofs.sizes.Goals as goal

-- An accepted file has at most eight tasks.
few_tasks : (s : List ℕ) (R : Recorder) → Reads s R → (tables_of s).tasks.count ≤ 8
unfolding tables_as
few_tasks s R r = (listed_whole s R r).few_tasks

pub returns-in_err-read : goal.returns-in_err-read
returns-in_err-read c =
    let p = err_from_is_err_and c.from_residual.result c.from_residual.ensures.1 in
    rw (p.1, p.2) (P.OfFile.refused (sym c.in_err-read.ensures))

pub tables_in-requires : goal.tables_in-requires
tables_in-requires c = listed_whole _ _ (sym c.in_ok-read.ensures)

pub sizes_of-requires : goal.sizes_of-requires
sizes_of-requires c =
    let recorded = sym c.in_ok-read.ensures in
    (accepted_valid _ _ recorded, rw c.tables_in.ensures (few_tasks _ _ recorded))

pub returns : goal.returns
returns c = P.OfFile.read (sym c.in_ok-read.ensures) (rw c.tables_in.ensures at c.sizes_of.ensures)
