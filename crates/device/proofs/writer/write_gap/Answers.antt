-- `device::write_gap` meets its contract: the level chosen has room, and its trip is the gap's row.
use mathlib.Core.Path.{◌≡◌, refl, sym, ap, ◌∙◌, subst}
use mathlib.Core.List.{List, ◌++◌, map}
use Prim.Native.Nat.{ℕ, ◌+◌, ◌-◌, ◌*◌, ◌≤◌}
use native.Mathlib.Omega.{arith}
use lib.ListN.{take, drop}
use Rattle.device.specs.Row.{byte_of, trip, gap_row}
use Rattle.device.specs.Row as Row
use Rattle.device.specs.inside.Trips.{trip_bytes}
use Rattle.device.proofs.Chosen.{chosen}
use Rattle.device.proofs.Bytes.{bytes_trip}
use Rattle.device.proofs.writer.write_gap.Goals as goal
use Rattle.device.proofs.writer.write_gap.Goals.{After-gap_trip-trip}

-- The trip lies within the gap.
room : (c : After-gap_trip-trip) → let a = c.args in a.d.shut * c.gap_trip-trip.result.level + a.d.wake * c.gap_trip-trip.result.level ≤ a.g
room c =
    let a = c.args in
    subst (λ (m : ℕ). a.d.shut * m + a.d.wake * m ≤ a.g) (sym c.gap_trip-trip.ensures.level) (chosen a.d a.d.levels a.g).room

-- Nothing of it is asked for.
pub returns-then-n-eq0 : goal.returns-then-n-eq0
returns-then-n-eq0 c = rw c.if-n-eq0.true (refl, refl)

pub overflow_mul-down : goal.overflow_mul-down
overflow_mul-down c = omega (arith, room (goal.at.overflow_mul-down c).After-gap_trip-trip)

pub overflow_mul-up : goal.overflow_mul-up
overflow_mul-up c = omega (arith, room (goal.at.overflow_mul-up c).After-gap_trip-trip)

pub overflow_add-stay : goal.overflow_add-stay
overflow_add-stay c = omega (arith, room (goal.at.overflow_add-stay c).After-gap_trip-trip)

pub overflow_sub-stay : goal.overflow_sub-stay
overflow_sub-stay c = omega (arith, room (goal.at.overflow_sub-stay c).After-gap_trip-trip)

pub letter_at-requires : goal.letter_at-requires
letter_at-requires c =
    let a = c.args in
    omega (arith, c.gap_trip-trip.ensures.level, (chosen a.d a.d.levels a.g).within, c.requires.0.few_levels)

pub write_trip-requires : goal.write_trip-requires
write_trip-requires c =
    let h = room (goal.at.write_trip-requires c).After-gap_trip-trip in
    (omega arith, (omega arith, omega arith))

pub returns : goal.returns
returns c =
    let a = c.args in
    let m = c.gap_trip-trip.result.level in
    let stay = a.g - (a.d.shut * m + a.d.wake * m) in
    let row : trip_bytes (a.d.shut * m) stay (a.d.wake * m) (byte_of a.sleeps (Row.at m)) ≡ map (byte_of a.sleeps) (gap_row a.d a.g)
    = sym (bytes_trip a.sleeps a.d m a.g) ∙ ap (λ (k : ℕ). map (byte_of a.sleeps) (trip a.d k a.g)) c.gap_trip-trip.ensures.level in
    let all = ap (trip_bytes (a.d.shut * m) stay (a.d.wake * m)) c.letter_at.ensures ∙ row in
    (c.write_trip.ensures.0, c.write_trip.ensures.1 ∙ ap (λ (l : List ℕ). take a.n (drop a.x l) ++ drop a.n a.rest.now) all)
