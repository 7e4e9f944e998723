-- `calls::tell` meets its contract: four numbers are put one after the other, or none.
use mathlib.Core.Path.{refl, sym}
use native.Mathlib.Omega.{arith}
use lib.Seq.{length-take-le}
use Rattle.calls.proofs.Digits.{told_whole, told_none}
use Rattle.calls.proofs.results.tell.Goals as goal

pub slice_bounds-put-end-then-res-ge-RESULT : goal.slice_bounds-put-end-then-res-ge-RESULT
slice_bounds-put-end-then-res-ge-RESULT c = sym (length-take-le 1 c.args.res.now (omega arith))

pub returns-then-res-ge-RESULT : goal.returns-then-res-ge-RESULT
returns-then-res-ge-RESULT c =
    (refl, told_whole c.args.answer c.args.res.now _ _ _ _ c.if-res-ge-RESULT.true c.put.ensures c.put-then-res-ge-RESULT.ensures c.put-then-res-ge-RESULT-2.ensures c.put-then-res-ge-RESULT-3.ensures)

pub returns-else-res-ge-RESULT : goal.returns-else-res-ge-RESULT
returns-else-res-ge-RESULT c = (refl, sym (told_none c.args.answer c.args.res.now (omega arith)))
