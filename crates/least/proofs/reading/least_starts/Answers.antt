-- `least::least_starts` meets its contract.
use mathlib.Core.Path.{refl}
use native.Mathlib.Omega.{arith}
use Rattle.std.proofs.lemmas.Result.{err_from_is_err_and}
use Rattle.schedule.specs.Quantities.{jobs}
use Rattle.schedule.specs.Visiting.{root}
use Rattle.flat.specs.inside.Flat.{recorder_of}
use Rattle.least.proofs.Settling.{root_held, root_stopped, root_reads}
use Rattle.least.proofs.reading.least_starts.Goals as goal

pub least-requires : goal.least-requires
least-requires c =
    let R = recorder_of c.args.r.now in
    (c.requires.0, (omega arith, (record { left = jobs R; vertex = root R; shows = root_held R _ c.root_of-root.ensures _ c.all_jobs-all.ensures; time = refl }, omega arith)))

pub returns-in_err-total : goal.returns-in_err-total
returns-in_err-total c =
    let R = recorder_of c.args.r.now in
    rw (err_from_is_err_and c.from_residual.result c.from_residual.ensures.1).1
    (root_stopped R _ c.requires.0.tabled c.requires.1 _ c.root_of-root.ensures _ (c.in_err-total.ensures.answer (jobs R) (root R) (root_held R _ c.root_of-root.ensures _ c.all_jobs-all.ensures) refl))

pub read_off-requires : goal.read_off-requires
read_off-requires c =
    let R = recorder_of c.args.r.now in
    let shows = c.root_of-root.ensures in
    let e = c.in_ok-total.ensures in
    (e.lent.0, (e.lent.1, root_reads R _ c.requires.0.tabled c.requires.1 _ shows _ _ (e.answer (jobs R) (root R) (root_held R _ shows _ c.all_jobs-all.ensures) refl) _ c.all_jobs-all.ensures))
