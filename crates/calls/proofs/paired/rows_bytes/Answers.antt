-- `calls::rows_bytes` meets its contract.
use mathlib.Core.Path.{sym, subst}
use mathlib.Core.List.{List}
use native.Mathlib.Omega.{arith}
use Prim.Native.Nat.{ℕ}
use lib.ListN.{replicate}
use lib.Seq.{length-take-le}
use Rattle.schedule.specs.Quantities.{jobs}
use Rattle.planner.specs.Answers.{answered}
use Rattle.planner.specs.Promises.{RowsOf}
use Rattle.calls.proofs.Crossing.{own_starts, own_room}
use Rattle.calls.proofs.paired.rows_bytes.Goals as goal

-- What the list of start times holds before any is read.
abbrev zeros : List ℕ
zeros = replicate 16 0

pub slice_bounds-get_starts-end : goal.slice_bounds-get_starts-end
slice_bounds-get_starts-end c = sym (length-take-le _ _ (omega (arith, c.requires.0)))

pub get_starts-requires : goal.get_starts-requires
get_starts-requires c = rw (length-take-le (jobs c.args.r) zeros (omega (arith, c.requires.0))) (omega (arith, c.requires.1))

pub slice_bounds-own-end-2 : goal.slice_bounds-own-end-2
slice_bounds-own-end-2 c =
    own_room c.args.bytes.now zeros c.get_starts.new.starts (jobs c.args.r) (omega (arith, c.requires.0)) c.get_starts.ensures

pub slice_bounds-rows_of-end : goal.slice_bounds-rows_of-end
slice_bounds-rows_of-end c =
    sym (length-take-le _ _ (own_room c.args.bytes.now zeros c.get_starts.new.starts (jobs c.args.r) (omega (arith, c.requires.0)) c.get_starts.ensures))

pub returns : goal.returns
returns c =
    let w = c.rows_of in
    subst (λ (l : List ℕ). RowsOf l c.args.out.now c.args.r (answered w.result) w.new.out)
    (own_starts c.args.bytes.now zeros c.get_starts.new.starts (jobs c.args.r) (omega (arith, c.requires.0)) c.get_starts.ensures) w.ensures
