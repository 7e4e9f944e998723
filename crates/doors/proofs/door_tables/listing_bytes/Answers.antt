-- `doors::door_tables::listing_bytes` meets its contract.
use mathlib.Core.Path.{refl, sym, ◌∙◌}
use native.Mathlib.Omega.{arith}
use lib.Seq.{length-take-le}
use Rattle.std.proofs.lemmas.Result.{err_from_is_err_and}
use Rattle.base.proofs.Numbered.{not_0}
use Rattle.planner.specs.Promises.{stops, gives}
use Rattle.planner.proofs.Refusing.{unless_equal, unless_enough}
use Rattle.doors.specs.Promises.{told}
use Rattle.doors.proofs.Tabled.{listed_few, made_count, made_room, made_taken}
use Rattle.doors.proofs.door_tables.listing_bytes.Goals as goal

pub returns-in_err-listing : goal.returns-in_err-listing
returns-in_err-listing c =
    let p = err_from_is_err_and c.from_residual.result c.from_residual.ensures.1 in
    rw (p.1, p.2) (told c.in_err-listing.ensures (stops (not_0 _)))

pub bytes_of-made-requires : goal.bytes_of-made-requires
bytes_of-made-requires c = listed_few c.args.file.now _ c.in_ok-listing.ensures refl

pub returns-then-out-n : goal.returns-then-out-n
returns-then-out-n c =
    rw c.from.ensures (told c.in_ok-listing.ensures (unless_equal refl (stops (omega (arith, c.if-out-n.true, made_count _ _ c.bytes_of-made.ensures)))))

pub slice_bounds-copy_from_slice-end-3 : goal.slice_bounds-copy_from_slice-end-3
slice_bounds-copy_from_slice-end-3 c = sym (length-take-le _ _ (made_room _ _ c.bytes_of-made.ensures))

pub slice_bounds-bytes-end : goal.slice_bounds-bytes-end
slice_bounds-bytes-end c = made_room _ _ c.bytes_of-made.ensures

pub copy_from_slice-requires : goal.copy_from_slice-requires
copy_from_slice-requires c = length-take-le _ _ c.if-out-n.false ∙ sym (length-take-le _ _ (made_room _ _ c.bytes_of-made.ensures))

pub overflow_cast-result : goal.overflow_cast-result
overflow_cast-result c = omega (arith, c.bytes_of-made.ensures.1)

pub returns : goal.returns
returns c =
    let m = c.bytes_of-made.ensures in
    let made = c.copy_from_slice.ensures.after ∙ made_taken _ _ m in
    rw (made, made_count _ _ m) (told c.in_ok-listing.ensures (unless_equal refl (unless_enough (omega (arith, c.if-out-n.false, made_count _ _ m)) gives)))
