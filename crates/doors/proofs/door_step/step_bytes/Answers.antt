-- `doors::door_step::step_bytes` meets its contract.
use mathlib.Core.Path.{refl, sym}
use mathlib.Core.List.{List, ◌++◌}
use Prim.Native.Nat.{ℕ, ◌/◌}
use native.Mathlib.Omega.{arith}
use lib.ListN.{length, get_or, take, drop, replicate, length-append, get_or-append}
use lib.Seq.{length-take-le}
use Rattle.std.proofs.lemmas.Result.{err_from_is_err_and}
use Rattle.base.proofs.Numbered.{not_0}
use Rattle.request.proofs.Accepted.{accepted_valid}
use Rattle.planner.specs.Promises.{OfFile}
use Rattle.calls.proofs.Crossing.{front_room}
use Rattle.doorway.proofs.Fours.{fours_front}
use Rattle.doors.proofs.Places.{own_lent, front_taken}
use Rattle.doors.proofs.Stepping.{steps_room, steps_kept, steps_given}
use Rattle.doors.proofs.door_step.step_bytes.Goals as goal

-- What the list of energies holds before any is written.
abbrev zeros : List ℕ
zeros = replicate 8 0

pub returns-in_err-recorder : goal.returns-in_err-recorder
returns-in_err-recorder c =
    let p = err_from_is_err_and c.from_residual.result c.from_residual.ensures.1 in
    rw (p.1, p.2) (OfFile.refused (sym c.in_err-recorder.ensures))

pub slice_bounds-steps_of-end : goal.slice_bounds-steps_of-end
slice_bounds-steps_of-end c = sym (length-take-le _ _ (omega (arith, c.min-places.ensures)))

pub steps_of-requires : goal.steps_of-requires
steps_of-requires c = accepted_valid _ _ (sym c.in_ok-recorder.ensures)

pub returns-in_err-figures : goal.returns-in_err-figures
returns-in_err-figures c =
    let p = err_from_is_err_and c.from_residual-in_err-figures.result c.from_residual-in_err-figures.ensures.1 in
    let s = c.args in
    let n = c.min-places in
    let r = sym c.in_ok-recorder.ensures in
    rw (p.1, p.2)
    (OfFile.read r
    (steps_kept s.file.now s.starts.now s.out.now c.in_ok-recorder.recorder (accepted_valid _ _ r).few_devices (take n.result zeros)
    (own_lent zeros n.result (length s.out.now / 4) 8 n.ensures (omega arith)) (not_0 _) c.in_err-figures.ensures))

pub slice_bounds-room-end-2 : goal.slice_bounds-room-end-2
slice_bounds-room-end-2 c = front_room zeros c.steps_of.new.energies c.min-places.result c.min-devices.result (omega (arith, c.min-places.ensures)) (omega (arith, c.min-devices.ensures)) c.steps_of.auto.energies

pub slice_bounds-put_fours-end : goal.slice_bounds-put_fours-end
slice_bounds-put_fours-end c = sym (front_taken zeros c.steps_of.new.energies c.min-places.result c.min-devices.result (omega (arith, c.min-places.ensures)) (omega (arith, c.min-devices.ensures)) c.steps_of.auto.energies)

pub put_fours-requires : goal.put_fours-requires
put_fours-requires c = rw (front_taken zeros c.steps_of.new.energies c.min-places.result c.min-devices.result (omega (arith, c.min-places.ensures)) (omega (arith, c.min-devices.ensures)) c.steps_of.auto.energies) (omega (arith, c.min-devices.ensures, c.min-places.ensures))

pub returns : goal.returns
returns c =
    let s = c.args in
    let n = c.min-places in
    let R = c.in_ok-recorder.recorder in
    let r = sym c.in_ok-recorder.ensures in
    let few = (accepted_valid _ _ r).few_devices in
    let own = take n.result zeros in
    let fits = own_lent zeros n.result (length s.out.now / 4) 8 n.ensures (omega arith) in
    let found = c.in_ok-figures.ensures in
    let room = steps_room s.file.now s.starts.now s.out.now R few own fits refl found in
    let e = c.steps_of.new.energies in
    rw (fours_front (λ k. get_or e k 0) (e ++ drop n.result zeros) s.out.now _ R.devices.count c.min-devices.result (omega (arith, c.min-devices.ensures, room.0, fits, n.ensures))
    (omega (arith, room.1, length-append e (drop n.result zeros))) (λ k l. get_or-append e (drop n.result zeros) 0 k (omega (arith, l, room.1))) c.put_fours.ensures)
    (OfFile.read r (steps_given s.file.now s.starts.now s.out.now R few own fits refl found))
