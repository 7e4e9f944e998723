-- `doorway::hand_starts` meets its contract.
use mathlib.Core.Path.{sym}
use native.Mathlib.Omega.{arith}
use lib.Seq.{length-take-le}
use Rattle.doorway.proofs.Opening.{handed_own}
use Rattle.doorway.proofs.hand_starts.Goals as goal

pub slice_bounds-get_starts-end-2 : goal.slice_bounds-get_starts-end-2
slice_bounds-get_starts-end-2 c = sym (length-take-le _ _ (omega (arith, c.min-n.ensures, c.requires)))

pub get_starts-requires : goal.get_starts-requires
get_starts-requires c =
    rw (length-take-le c.min-n.result c.args.own.now (omega (arith, c.min-n.ensures, c.requires))) (omega (arith, c.min-n.ensures))

pub returns : goal.returns
returns c =
    let n = c.min-n in
    (omega (arith, n.ensures), handed_own c.args.bytes.now c.args.own.now _ n.result (omega (arith, n.ensures, c.requires)) n.ensures c.get_starts.ensures)
