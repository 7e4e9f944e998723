-- `calls_fault::tell_counted` meets its contract.
use mathlib.Core.Path.{refl, sym}
use lib.Seq.{length-take-le}
use Rattle.base.proofs.Filling.{filled_first}
use Rattle.calls.specs.Bytes.{big}
use Rattle.calls.proofs.Digits.{length_big}
use Rattle.calls_fault.proofs.tell_counted.Goals as goal

pub slice_bounds-put-end-2 : goal.slice_bounds-put-end-2
slice_bounds-put-end-2 c = sym (length-take-le 8 c.args.res.now c.requires)

pub returns : goal.returns
returns c =
    let place = c.args.place in
    (refl, (filled_first (λ k. big k place) (λ k. length_big k place) c.args.res.now 8 c.requires _ c.put.ensures).is)
