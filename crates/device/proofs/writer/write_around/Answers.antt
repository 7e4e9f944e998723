use mathlib.Core.Path.{◌≡◌, sym, ap, ◌∙◌}
use mathlib.Core.List.{List, ◌++◌, append_assoc, append-nil, map}
use Prim.Native.Nat.{ℕ, ◌+◌, ◌-◌, ◌≤◌, ◌<◌}
use native.Mathlib.Omega.{arith}
use borrow.Rule.Slice.PartMut.{put_mid}
use lib.ListN.{length, replicate, length-replicate, take, drop, length-drop}
use lib.Seq.{take_all, length-take-le}
use Rattle.base.proofs.Filling.{Filled, filled_length}
use Rattle.device.specs.declared.Device.{Device}
use Rattle.device.specs.declared.Sleeps.{Sleeps}
use Rattle.device.specs.Row.{byte_of, gap_row}
use Rattle.device.specs.inside.Uses.{begin, end, after_from}
use Rattle.device.specs.inside.Trips.{around}
use Rattle.device.proofs.Spacing.{use_fits, from_by, from_next}
use Rattle.device.proofs.Bytes.{bytes, bytes_none, bytes_use, length_gap_bytes, written_first, written_on, filled_begun, filled_since}
use Rattle.device.proofs.writer.write_around.Invariants.{seamed}
use Rattle.device.proofs.writer.write_around.Goals as goal
use Rattle.device.proofs.writer.write_around.Goals.{Start, At-loop-i, In-loop-i, After-loop-i}

-- The gap over the seam lies within the row.
room : (c : Start) → c.args.tail + c.args.front ≤ c.args.h
room c =
    let a = c.args in
    let r = c.requires.1 in
    omega (arith, from_by a.u a.h r.0 a.front r.1.0 a.u.count (omega arith), r.1.1.0, r.1.1.1.0)

-- Its end is written first.
head : (sleeps : Sleeps) (d : Device) (tail front : ℕ) {l m : List ℕ} {r : ℕ}
    → (r ≡ front) × (m ≡ take front (drop tail (seamed sleeps d tail front)) ++ drop front l) → Filled l front (drop tail (seamed sleeps d tail front)) m
head sleeps d tail front e =
    let gap = seamed sleeps d tail front in
    let long = length_gap_bytes sleeps d (tail + front) in
    let all : take front (drop tail gap) ≡ drop tail gap = take_all front (drop tail gap) (omega (arith, length-drop tail gap)) in
    let first = written_first (take front (drop tail gap)) (length-take-le front (drop tail gap) (omega (arith, length-drop tail gap))) e in
    rw (e.0, all) at first

pub loop-i-init : goal.loop-i-init
loop-i-init c =
    let a = c.args in
    let to : c.write_gap-at.result ≡ a.front = c.write_gap-at.ensures.0 in
    let front = drop a.tail (seamed a.sleeps a.d a.tail a.front) in
    let none : front ++ bytes a.sleeps a.u a.d a.front a.front ≡ front = ap (λ (l : List ℕ). front ++ l) (bytes_none a.sleeps a.u a.d a.front) ∙ append-nil front in
    (to, rw (to, none) (filled_begun (head a.sleeps a.d a.tail a.front c.write_gap-at.ensures)))

-- What is written since.
since : (c : At-loop-i) → let a = c.args in
    Filled a.out.now c.loop-i.at (drop a.tail (seamed a.sleeps a.d a.tail a.front) ++ bytes a.sleeps a.u a.d a.front c.loop-i.at) c.loop-i.out
since c =
    let a = c.args in
    filled_since (head a.sleeps a.d a.tail a.front c.write_gap-at.ensures) c.loop-i.invariant.1
    (omega (arith, c.loop-i.invariant.0, from_by a.u a.h c.requires.1.0 a.front c.requires.1.1.0 c.loop-i.i c.loop-i.auto.i-end))

-- The next use, and the gap before it, have room.
fits : (c : In-loop-i)
    → (c.loop-i.at ≤ begin c.args.u c.loop-i.i)
    × (begin c.args.u c.loop-i.i < end c.args.u c.loop-i.i)
    × (end c.args.u c.loop-i.i ≤ c.args.h)
    × (length c.loop-i.out ≡ length c.args.out.now)
fits c =
    let f = use_fits c.args.u c.args.h c.requires.1.0 c.args.front c.requires.1.1.0 c.loop-i.i c.loop-i-test.true in
    let at : c.loop-i.at ≤ begin c.args.u c.loop-i.i = omega (arith, c.loop-i.invariant.0) in
    (at, f.1, f.2, filled_length (since c.before) (omega (arith, c.requires.1.1.1.1.1.1)))

-- After the last use the gap's beginning fills the row.
over : (c : After-loop-i) → let a = c.args in
    (c.loop-i.at ≡ after_from a.front a.u a.u.count) × (c.loop-i.at + a.tail ≡ a.h) × (length c.loop-i.out ≡ length a.out.now)
over c =
    let a = c.args in
    let last : c.loop-i.i ≡ a.u.count = omega arith in
    let e : c.loop-i.at ≡ after_from a.front a.u a.u.count = c.loop-i.invariant.0 ∙ ap (after_from a.front a.u) last in
    let h = c.requires.1.1.1 in
    (e, omega (arith, h.0, h.1.0), filled_length (since c.before) (omega (arith, h.0, h.1.1.1)))

-- So the row is whole.
whole : (a : Start) (at : ℕ) {l rest : List ℕ} {r : ℕ} → let c = a.args in
    (at ≡ after_from c.front c.u c.u.count) × (at + c.tail ≡ c.h) × (length l ≡ length c.out.now)
    → Filled c.out.now at (drop c.tail (seamed c.sleeps c.d c.tail c.front) ++ bytes c.sleeps c.u c.d c.front at) l
    → (r ≡ c.tail) × (rest ≡ take c.tail (drop 0 (seamed c.sleeps c.d c.tail c.front)) ++ drop c.tail (take (length l - at) (drop at l)))
    → Filled c.out.now c.h (around c.sleeps c.d c.u c.front c.tail) (put_mid at (length l - at) l rest)
unfolding around
whole a at o w e =
    let c = a.args in
    let r = room a in
    let gap = seamed c.sleeps c.d c.tail c.front in
    let long = length_gap_bytes c.sleeps c.d (c.tail + c.front) in
    let wide = a.requires.1.1.1.1.1.1 in
    let last = written_on w (take c.tail (drop 0 gap)) (length-take-le c.tail gap (omega arith)) (omega arith) e in
    let to = ap (λ (k : ℕ). at + k) e.0 ∙ o.1 in
    let joined = append_assoc (drop c.tail gap) (bytes c.sleeps c.u c.d c.front at) (take c.tail gap) in
    rw (← o.0) (rw (to, joined) at last)

pub overflow_add-seam : goal.overflow_add-seam
overflow_add-seam c = omega (arith, room (goal.at.overflow_add-seam c).Start)

pub write_gap-at-requires : goal.write_gap-at-requires
write_gap-at-requires c = let r = room (goal.at.write_gap-at-requires c).Start in (c.requires.0, (omega arith, (omega arith, omega arith)))

pub overflow_sub-gap : goal.overflow_sub-gap
overflow_sub-gap c = omega (arith, fits (goal.at.overflow_sub-gap c).In-loop-i)

pub slice_bounds-write_gap-count : goal.slice_bounds-write_gap-count
slice_bounds-write_gap-count c = omega (arith, fits (goal.at.slice_bounds-write_gap-count c).In-loop-i)

pub slice_bounds-write_gap-start : goal.slice_bounds-write_gap-start
slice_bounds-write_gap-start c = omega (arith, fits (goal.at.slice_bounds-write_gap-start c).In-loop-i)

pub slice_bounds-write_gap-end : goal.slice_bounds-write_gap-end
slice_bounds-write_gap-end c = omega (arith, fits (goal.at.slice_bounds-write_gap-end c).In-loop-i)

pub write_gap-at-requires-in-loop-i : goal.write_gap-at-requires-in-loop-i
write_gap-at-requires-in-loop-i c =
    let f = fits (goal.at.write_gap-at-requires-in-loop-i c).In-loop-i in
    let r = c.requires.1.1.1.1.1 in
    (c.requires.0, (omega arith, (omega arith, omega arith)))

pub overflow_add-at : goal.overflow_add-at
overflow_add-at c = omega (arith, fits (goal.at.overflow_add-at c).In-loop-i)

pub slice_bounds-write_run-count : goal.slice_bounds-write_run-count
slice_bounds-write_run-count c = omega (arith, fits (goal.at.slice_bounds-write_run-count c).In-loop-i)

pub slice_bounds-write_run-start : goal.slice_bounds-write_run-start
slice_bounds-write_run-start c = omega (arith, fits (goal.at.slice_bounds-write_run-start c).In-loop-i)

pub slice_bounds-write_run-end : goal.slice_bounds-write_run-end
slice_bounds-write_run-end c = omega (arith, fits (goal.at.slice_bounds-write_run-end c).In-loop-i)

pub overflow_sub-end : goal.overflow_sub-end
overflow_sub-end c = omega (arith, fits (goal.at.overflow_sub-end c).In-loop-i)

pub overflow_add-at-in-loop-i : goal.overflow_add-at-in-loop-i
overflow_add-at-in-loop-i c = omega (arith, fits (goal.at.overflow_add-at-in-loop-i c).In-loop-i)

pub write_run-at-requires : goal.write_run-at-requires
write_run-at-requires c = omega (arith, fits (goal.at.write_run-at-requires c).In-loop-i, c.requires.1.1.1.1.1.1)

pub loop-i-preserved : goal.loop-i-preserved
loop-i-preserved c =
    let a = c.args in
    let u = a.u in
    let i = c.loop-i.i in
    let at = c.loop-i.at in
    let f = fits (goal.at.loop-i-preserved c).In-loop-i in
    let size = filled_length (head a.sleeps a.d a.tail a.front c.write_gap-at.ensures) (omega (arith, room (goal.at.loop-i-preserved c).Start, c.requires.1.1.1.1.1.1)) in
    let n = begin u i - at in
    let wide = c.requires.1.1.1.1.1.1 in
    let made = map (byte_of a.sleeps) (gap_row a.d n) in
    let long = length_gap_bytes a.sleeps a.d n in
    let all : take n (drop 0 made) ≡ made = take_all n made (omega arith) in
    let first = drop a.tail (seamed a.sleeps a.d a.tail a.front) in
    let before = bytes a.sleeps u a.d a.front at in
    let work : List ℕ = replicate (end u i - begin u i) 87 in
    let gap = written_on c.loop-i.invariant.1 (take n (drop 0 made)) (length-take-le n made (omega arith)) (omega arith) c.write_gap-at-in-loop-i.ensures in
    let used = written_on gap work (length-replicate (end u i - begin u i) 87) (omega arith) c.write_run-at.ensures in
    let to : at + c.write_gap-at-in-loop-i.result + c.write_run-at.result ≡ end u i = omega arith in
    let joined : ((first ++ before) ++ take n (drop 0 made)) ++ work ≡ first ++ bytes a.sleeps u a.d a.front (end u i)
    = ap (λ (k : List ℕ). ((first ++ before) ++ k) ++ work) all ∙ ap (λ (k : List ℕ). k ++ work) (append_assoc first before made) ∙ append_assoc first (before ++ made) work
    ∙ ap (λ (k : List ℕ). first ++ k) (sym (bytes_use a.sleeps u a.h c.requires.1.0 a.d a.front c.requires.1.1.0 i at c.loop-i-test.true c.loop-i.invariant.0)) in
    (to ∙ from_next a.front u i, rw to (rw (to, joined) at used))

pub slice_bounds-write_gap-count-2 : goal.slice_bounds-write_gap-count-2
slice_bounds-write_gap-count-2 c = omega (arith, over (goal.at.slice_bounds-write_gap-count-2 c).After-loop-i)

pub slice_bounds-write_gap-start-2 : goal.slice_bounds-write_gap-start-2
slice_bounds-write_gap-start-2 c = omega (arith, over (goal.at.slice_bounds-write_gap-start-2 c).After-loop-i)

pub slice_bounds-write_gap-end-2 : goal.slice_bounds-write_gap-end-2
slice_bounds-write_gap-end-2 c = omega (arith, over (goal.at.slice_bounds-write_gap-end-2 c).After-loop-i)

pub write_gap-requires : goal.write_gap-requires
write_gap-requires c =
    let r = room (goal.at.write_gap-requires c).Start in
    let o = over (goal.at.write_gap-requires c).After-loop-i in
    let h = c.requires.1.1.1.1.1 in
    (c.requires.0, (omega arith, (omega arith, omega arith)))

pub shape_of-out : goal.shape_of-out
shape_of-out c = let p = goal.at.shape_of-out c in filled_length (whole p.Start c.loop-i.at (over p.After-loop-i) (since p.After-loop-i.before) c.write_gap.ensures) c.requires.1.1.1.1.1.1

pub returns : goal.returns
returns c = let p = goal.at.returns c in (whole p.Start c.loop-i.at (over p.After-loop-i) (since p.After-loop-i.before) c.write_gap.ensures).is
