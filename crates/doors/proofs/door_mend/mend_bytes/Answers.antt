-- `doors::door_mend::mend_bytes` meets its contract.
use mathlib.Core.Path.{refl, sym, subst}
use mathlib.Core.List.{List}
use Prim.Native.Nat.{ℕ, ◌*◌, ◌/◌}
use native.Mathlib.Omega.{arith}
use lib.ListN.{length, take, drop, replicate}
use lib.Seq.{length-take-le}
use Rattle.std.specs.Prelude.{Ok}
use Rattle.std.proofs.lemmas.Result.{err_from_is_err_and}
use Rattle.base.proofs.Numbered.{not_0}
use Rattle.schedule.specs.Quantities.{jobs}
use Rattle.planner.specs.Answers.{answered}
use Rattle.mend.specs.Promises.{Lent, lending, MendOf}
use Rattle.calls.proofs.Crossing.{front_room}
use Rattle.doorway.proofs.Opening.{kept_places, given_places, twos_front}
use Rattle.doors.specs.Promises.{MendSpelled}
use Rattle.doors.proofs.Places.{own_lent, front_taken}
use Rattle.doors.proofs.Mending.{mend_room, mend_kept, mend_given}
use Rattle.doors.proofs.door_mend.mend_bytes.Goals as goal

-- What the lists of starts and of moves hold before any is written.
abbrev zeros : ℕ → List ℕ
zeros n = replicate n 0

pub slice_bounds-mend-end : goal.slice_bounds-mend-end
slice_bounds-mend-end c = sym (length-take-le _ _ (omega (arith, c.min-places.ensures)))

pub slice_bounds-mend-end-2 : goal.slice_bounds-mend-end-2
slice_bounds-mend-end-2 c = sym (length-take-le _ _ (omega (arith, c.min-numbers.ensures)))

pub returns-in_err-figures : goal.returns-in_err-figures
returns-in_err-figures c =
    let p = err_from_is_err_and c.from_residual.result c.from_residual.ensures.1 in
    let s = c.args in
    let n = c.min-places in
    let m = c.min-numbers in
    let lent = lending s.out.now s.moved.now in
    let own = lending (take n.result (zeros 16)) (take m.result (zeros 48)) in
    let fits = own_lent (zeros 16) n.result (length s.out.now / 2) 16 n.ensures (omega arith) in
    let fits' = own_lent (zeros 48) m.result (length s.moved.now / 2) 48 m.ensures (omega arith) in
    rw (p.1, p.2)
    (kept_places s.file.now own lent (MendOf s.given.now own) (MendSpelled s.given.now lent)
    (λ R v b l z t. mend_kept s.given.now lent R v.few_jobs own fits fits' z t) (not_0 _) c.in_err-figures.ensures)

pub slice_bounds-starts-end-2 : goal.slice_bounds-starts-end-2
slice_bounds-starts-end-2 c = front_room (zeros 16) c.mend.new.starts c.min-places.result c.min-jobs.result (omega (arith, c.min-places.ensures)) (omega (arith, c.min-jobs.ensures)) c.mend.auto.starts

pub slice_bounds-put_starts-end : goal.slice_bounds-put_starts-end
slice_bounds-put_starts-end c = sym (front_taken (zeros 16) c.mend.new.starts c.min-places.result c.min-jobs.result (omega (arith, c.min-places.ensures)) (omega (arith, c.min-jobs.ensures)) c.mend.auto.starts)

pub put_starts-requires : goal.put_starts-requires
put_starts-requires c = rw (front_taken (zeros 16) c.mend.new.starts c.min-places.result c.min-jobs.result (omega (arith, c.min-places.ensures)) (omega (arith, c.min-jobs.ensures)) c.mend.auto.starts) (omega (arith, c.min-jobs.ensures, c.min-places.ensures))

pub slice_bounds-moves-end-2 : goal.slice_bounds-moves-end-2
slice_bounds-moves-end-2 c = front_room (zeros 48) c.mend.new.moved c.min-numbers.result c.min-listed.result (omega (arith, c.min-numbers.ensures)) (omega (arith, c.min-listed.ensures)) c.mend.auto.moved

pub slice_bounds-put_starts-end-2 : goal.slice_bounds-put_starts-end-2
slice_bounds-put_starts-end-2 c = sym (front_taken (zeros 48) c.mend.new.moved c.min-numbers.result c.min-listed.result (omega (arith, c.min-numbers.ensures)) (omega (arith, c.min-listed.ensures)) c.mend.auto.moved)

pub put_starts-requires-2 : goal.put_starts-requires-2
put_starts-requires-2 c = rw (front_taken (zeros 48) c.mend.new.moved c.min-numbers.result c.min-listed.result (omega (arith, c.min-numbers.ensures)) (omega (arith, c.min-listed.ensures)) c.mend.auto.moved) (omega (arith, c.min-listed.ensures, c.min-numbers.ensures))

pub returns : goal.returns
returns c =
    let s = c.args in
    let n = c.min-places in
    let m = c.min-numbers in
    let a = c.mend in
    let lent = lending s.out.now s.moved.now in
    let own = lending (take n.result (zeros 16)) (take m.result (zeros 48)) in
    let fits = own_lent (zeros 16) n.result (length s.out.now / 2) 16 n.ensures (omega arith) in
    let fits' = own_lent (zeros 48) m.result (length s.moved.now / 2) 48 m.ensures (omega arith) in
    let f = c.in_ok-figures.figures in
    let found = answered (Ok f) in
    given_places s.file.now own lent (MendOf s.given.now own) (MendSpelled s.given.now lent) found (lending a.new.starts a.new.moved) _
    (λ R v t.
    let room = mend_room s.given.now lent R v.few_jobs own fits fits' refl t in
    let starts = twos_front a.new.starts (drop n.result (zeros 16)) s.out.now _ (jobs R) c.min-jobs.result (omega (arith, c.min-jobs.ensures, room.0, room.1.starts, fits, n.ensures)) room.2 c.put_starts.ensures in
    let moved = twos_front a.new.moved (drop m.result (zeros 48)) s.moved.now _ (3 * f.count) c.min-listed.result (omega (arith, c.min-listed.ensures, room.3, room.1.moved, fits', m.ensures)) room.4 c.put_starts-2.ensures in
    subst (λ (x : Lent). MendSpelled s.given.now lent R found x) (rw (starts, moved)) (mend_given s.given.now lent R v.few_jobs own fits fits' refl t))
    refl c.in_ok-figures.ensures
