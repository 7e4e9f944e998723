-- `device::write_trip` meets its contract: of three runs what lies in the part is written one after the other, each at the front of what the one before it left.
use mathlib.Core.Path.{◌≡◌, ◌∙◌}
use Prim.Native.Nat.{ℕ, ◌+◌, ◌-◌, ◌≤◌}
use native.Mathlib.Omega.{arith}
use lib.ListN.{replicate, length-replicate}
use Rattle.device.specs.inside.Trips.{shared}
use Rattle.device.proofs.Bytes.{written_first, written_on, taken_trip, shared_trip}
use Rattle.device.proofs.writer.write_trip.Goals as goal
use Rattle.device.proofs.writer.write_trip.Goals.{Start}

grows : (x n c : ℕ) → x - c ≤ x + n - c
grows x n c = omega arith

-- The three parts are as many as are asked for.
all : (c : Start) → let a = c.args in
    shared a.down a.x (a.x + a.n) + shared a.stay (a.x - a.down) (a.x + a.n - a.down) + shared a.up (a.x - (a.down + a.stay)) (a.x + a.n - (a.down + a.stay)) ≡ a.n
all c = let a = c.args in shared_trip a.down a.stay a.up a.x a.n c.requires.0

pub write_some-done-requires : goal.write_some-done-requires
write_some-done-requires c = (omega arith, omega (arith, all (goal.at.write_some-done-requires c).Start))

pub write_some-done-requires-2 : goal.write_some-done-requires-2
write_some-done-requires-2 c =
    let n = all (goal.at.write_some-done-requires-2 c).Start in
    rw (c.saturating_sub.ensures, c.saturating_sub-2.ensures) (grows _ _ _, omega (arith, n))

pub write_some-requires : goal.write_some-requires
write_some-requires c =
    let n = all (goal.at.write_some-requires c).Start in
    let second = rw (c.saturating_sub.ensures, c.saturating_sub-2.ensures) at c.write_some-done-2.ensures.0 in
    rw (c.saturating_sub-3.ensures, c.saturating_sub-4.ensures) (grows _ _ _, omega (arith, n, second))

pub returns : goal.returns
returns c =
    let n = all (goal.at.returns c).Start in
    let a = c.args in
    let front = written_first (replicate _ 68) (length-replicate _ 68) c.write_some-done.ensures in
    let second = rw (c.saturating_sub.ensures, c.saturating_sub-2.ensures) at c.write_some-done-2.ensures in
    let stayed = written_on front (replicate (shared a.stay (a.x - a.down) (a.x + a.n - a.down)) a.letter) (length-replicate _ a.letter) (omega (arith, n)) second in
    let third = rw (c.saturating_sub-3.ensures, c.saturating_sub-4.ensures) at c.write_some.ensures in
    let whole = written_on stayed (replicate (shared a.up (a.x - (a.down + a.stay)) (a.x + a.n - (a.down + a.stay))) 85) (length-replicate _ 85) (omega (arith, n, second.0)) third in
    let end : c.write_some-done.result + c.write_some-done-2.result + c.write_some.result ≡ a.n = omega (arith, n, second.0, third.0) in
    (end, whole.is ∙ rw (end, taken_trip a.down a.stay a.up a.letter a.x a.n))
