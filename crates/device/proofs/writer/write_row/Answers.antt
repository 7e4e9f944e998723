-- `device::write_row` meets its contract: a round without a use is one run, and every other row is written around its gap over the seam.
use mathlib.Core.Path.{◌≡◌, sym, ap, ◌∙◌}
use mathlib.Core.Bool.{true, false}
use mathlib.Core.List.{List, ◌++◌, map}
use Prim.Native.Nat.{ℕ, ◌-◌}
use native.Mathlib.Omega.{arith}
use lib.ListN.{replicate, drop}
use Rattle.device.specs.Row.{byte_of, row_of, pattern}
use Rattle.device.specs.Row as Row
use Rattle.device.specs.inside.Uses.{used_in, after, after_from, idle}
use Rattle.device.specs.inside.Trips.{around}
use Rattle.device.proofs.Prefix.{map_replicate}
use Rattle.device.proofs.Spacing.{front_by, last_front, row_idle}
use Rattle.device.proofs.Bytes.{row_around}
use Rattle.device.proofs.writer.write_row.Goals as goal
use Rattle.device.proofs.writer.write_row.Goals.{After-front_of-front}

pub letter_at-requires : goal.letter_at-requires
letter_at-requires c = omega (arith, c.requires.0.few_levels)

pub returns-then-is_idle : goal.returns-then-is_idle
returns-then-is_idle c =
    let a = c.args in
    let e : idle a.round a.u ≡ true = sym c.is_idle.ensures ∙ c.if-is_idle.true in
    let row : map (byte_of a.sleeps) (row_of a.round a.d (pattern (used_in a.u) 0 a.h)) ≡ replicate a.h (byte_of a.sleeps (Row.at a.d.levels))
    = ap (map (byte_of a.sleeps)) (row_idle a.u a.h c.requires.1.0 a.d a.round e) ∙ map_replicate (byte_of a.sleeps) a.h (Row.at a.d.levels) in
    c.write_run.ensures.1 ∙ ap (λ (l : List ℕ). l ++ drop a.h a.out.now) (ap (replicate a.h) c.letter_at.ensures ∙ sym row)

-- The row is used, and ends where the last use does.
lasts : (c : After-front_of-front) → let a = c.args in
    (idle a.round a.u ≡ false) × (after_from c.front_of-front.result a.u a.u.count ≡ after a.u a.u.count)
lasts c =
    let a = c.args in
    let e : idle a.round a.u ≡ false = sym c.is_idle.ensures ∙ c.if-is_idle.false in
    (e, rw c.front_of-front.ensures (last_front a.u a.h c.requires.1.0 a.round e))

pub write_around-requires : goal.write_around-requires
write_around-requires c =
    let a = c.args in
    let l = (lasts (goal.at.write_around-requires c).After-front_of-front).1 in
    let ok = c.requires.1.0 in
    (c.requires.0, (ok, (rw c.front_of-front.ensures (front_by a.u a.h ok a.round), (rw l ok.within, (rw (l, c.last_end.ensures), (omega arith, c.requires.1.1))))))

pub returns : goal.returns
returns c =
    let a = c.args in
    let l = lasts (goal.at.returns c).After-front_of-front in
    let tail : a.h - c.last_end.result ≡ a.h - after_from c.front_of-front.result a.u a.u.count = rw (l.1, c.last_end.ensures) in
    let row : around a.sleeps a.d a.u c.front_of-front.result (a.h - c.last_end.result) ≡ map (byte_of a.sleeps) (row_of a.round a.d (pattern (used_in a.u) 0 a.h))
    = rw (tail, c.front_of-front.ensures) (sym (row_around a.sleeps a.u a.h c.requires.1.0 a.d a.round l.0)) in
    c.write_around.ensures ∙ ap (λ (r : List ℕ). r ++ drop a.h a.out.now) row
