-- `calls_fault::tell_place` meets its contract: four numbers are put one after the other.
use mathlib.Core.Path.{refl, sym}
use mathlib.Core.List.{[], ◌∷◌}
use native.Mathlib.Omega.{arith}
use lib.Seq.{length-take-le}
use Rattle.faults.specs.Places.{Judged}
use Rattle.calls_fault.proofs.Telling.{place_told}
use Rattle.calls_fault.proofs.tell_place.Goals as goal

pub slice_bounds-put-end-2 : goal.slice_bounds-put-end-2
slice_bounds-put-end-2 c = sym (length-take-le 1 c.args.res.now (omega arith))

pub returns : goal.returns
returns c =
    let told : Judged = record { number = c.args.number; place = c.args.place; from = c.args.from; to = c.args.to } in
    let parts = c.code_in.result ∷ c.record_in.result ∷ c.args.from ∷ c.args.to ∷ [] in (
      refl,
      place_told told c.args.res.now _ _ _ _ parts c.requires
          (rw (c.code_in.ensures, c.record_in.ensures) refl) c.put.ensures c.put-2.ensures c.put-3.ensures c.put-4.ensures,
    )
