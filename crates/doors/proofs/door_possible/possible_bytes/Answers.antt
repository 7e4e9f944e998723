-- `doors::door_possible::possible_bytes` meets its contract.
use mathlib.Core.Path.{refl, sym}
use mathlib.Core.List.{List}
use Prim.Native.Nat.{ℕ, ◌/◌}
use native.Mathlib.Omega.{arith}
use lib.ListN.{length, take, drop, replicate}
use lib.Seq.{length-take-le}
use Rattle.std.proofs.lemmas.Result.{err_from_is_err_and}
use Rattle.base.proofs.Numbered.{not_0}
use Rattle.request.proofs.Accepted.{accepted_valid}
use Rattle.planner.specs.Promises.{OfFile}
use Rattle.calls.proofs.Crossing.{front_room}
use Rattle.doorway.proofs.Opening.{twos_front}
use Rattle.doors.proofs.Places.{own_lent, front_taken}
use Rattle.doors.proofs.Rooms.{possible_room, possible_kept, possible_given}
use Rattle.doors.proofs.door_possible.possible_bytes.Goals as goal

-- What the list of start times holds before any is written.
abbrev zeros : List ℕ
zeros = replicate 16 0

pub returns-in_err-recorder : goal.returns-in_err-recorder
returns-in_err-recorder c =
    let p = err_from_is_err_and c.from_residual.result c.from_residual.ensures.1 in
    rw (p.1, p.2) (OfFile.refused (sym c.in_err-recorder.ensures))

pub slice_bounds-first_schedule-end : goal.slice_bounds-first_schedule-end
slice_bounds-first_schedule-end c = sym (length-take-le _ _ (omega (arith, c.min-places.ensures)))

pub first_schedule-requires : goal.first_schedule-requires
first_schedule-requires c = accepted_valid _ _ (sym c.in_ok-recorder.ensures)

pub returns-in_err-figures : goal.returns-in_err-figures
returns-in_err-figures c =
    let p = err_from_is_err_and c.from_residual-in_err-figures.result c.from_residual-in_err-figures.ensures.1 in
    let s = c.args in
    let n = c.min-places in
    let r = sym c.in_ok-recorder.ensures in
    rw (p.1, p.2)
    (OfFile.read r
    (possible_kept s.budget s.starts.now _ (accepted_valid _ _ r).few_jobs (take n.result zeros)
    (own_lent zeros n.result (length s.starts.now / 2) 16 n.ensures (omega arith)) (not_0 _) c.in_err-figures.ensures))

pub slice_bounds-own-end-2 : goal.slice_bounds-own-end-2
slice_bounds-own-end-2 c = front_room zeros c.first_schedule.new.starts c.min-places.result c.min-jobs.result (omega (arith, c.min-places.ensures)) (omega (arith, c.min-jobs.ensures)) c.first_schedule.auto.starts

pub slice_bounds-put_starts-end : goal.slice_bounds-put_starts-end
slice_bounds-put_starts-end c = sym (front_taken zeros c.first_schedule.new.starts c.min-places.result c.min-jobs.result (omega (arith, c.min-places.ensures)) (omega (arith, c.min-jobs.ensures)) c.first_schedule.auto.starts)

pub put_starts-requires : goal.put_starts-requires
put_starts-requires c = rw (front_taken zeros c.first_schedule.new.starts c.min-places.result c.min-jobs.result (omega (arith, c.min-places.ensures)) (omega (arith, c.min-jobs.ensures)) c.first_schedule.auto.starts) (omega (arith, c.min-jobs.ensures, c.min-places.ensures))

pub returns : goal.returns
returns c =
    let s = c.args in
    let n = c.min-places in
    let r = sym c.in_ok-recorder.ensures in
    let few = (accepted_valid _ _ r).few_jobs in
    let own = take n.result zeros in
    let fits = own_lent zeros n.result (length s.starts.now / 2) 16 n.ensures (omega arith) in
    let found = c.in_ok-figures.ensures in
    let room = possible_room s.budget s.starts.now _ few own fits refl found in
    rw (twos_front c.first_schedule.new.starts (drop n.result zeros) s.starts.now _ _ c.min-jobs.result (omega (arith, c.min-jobs.ensures, room.0, fits, n.ensures)) room.1 c.put_starts.ensures)
    (OfFile.read r (possible_given s.budget s.starts.now _ few own fits refl found))
