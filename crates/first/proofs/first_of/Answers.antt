-- `first::first_of` meets its contract.
use mathlib.Core.Path.{sym, subst}
use Prim.Native.Nat.{ℕ, ◌<◌}
use native.Mathlib.Omega.{arith}
use lib.ListN.{length-replicate}
use borrow.Author.Rules.{rules}
use Rattle.schedule.specs.Quantities.{Valid}
use Rattle.planner.specs.Promises.{stops}
use Rattle.first.proofs.Found.{whole_known, is_none, is_ready, is_found}
use Rattle.first.proofs.first_of.Goals as goal

pub returns-then-starts-n : goal.returns-then-starts-n
returns-then-starts-n c = rw c.from.ensures (stops c.if-starts-n.true)

pub lay_latest-requires : goal.lay_latest-requires
lay_latest-requires c = (subst Valid (sym c.flat_of-flat.ensures) c.requires, length-replicate {A = ℕ} 65536 0)

pub all_jobs-requires : goal.all_jobs-requires
all_jobs-requires c = subst Valid (sym c.flat_of-flat.ensures) c.requires

pub offset_bounds-table-all_jobs : goal.offset_bounds-table-all_jobs
offset_bounds-table-all_jobs c =
    let known : c.all_jobs.result < 65536 = whole_known _ c.requires _ c.flat_of-flat.ensures _ c.lay_latest.ensures _ c.all_jobs.ensures in
    let k = known in search rules

pub bounds-table-all_jobs : goal.bounds-table-all_jobs
bounds-table-all_jobs c =
    let known : c.all_jobs.result < 65536 = whole_known _ c.requires _ c.flat_of-flat.ensures _ c.lay_latest.ensures _ c.all_jobs.ensures in
    omega (arith, known)

pub returns-then-table-all_jobs-eq0 : goal.returns-then-table-all_jobs-eq0
returns-then-table-all_jobs-eq0 c =
    rw c.from-then-table-all_jobs-eq0.ensures
    (is_none _ c.requires _ c.flat_of-flat.ensures _ c.lay_latest.ensures c.all_jobs.result c.all_jobs.ensures c.args.starts.now (omega arith) c.if-table-all_jobs-eq0.true)

pub lay_starts-requires : goal.lay_starts-requires
lay_starts-requires c =
    is_ready _ c.requires _ c.flat_of-flat.ensures _ c.lay_latest.ensures c.all_jobs.result c.all_jobs.ensures c.args.starts.now (omega arith) c.if-table-all_jobs-eq0.false

pub returns : goal.returns
returns c =
    (is_found _ c.requires _ c.flat_of-flat.ensures _ c.lay_latest.ensures c.all_jobs.result c.all_jobs.ensures c.args.starts.now (omega arith) _ c.lay_starts.ensures)
