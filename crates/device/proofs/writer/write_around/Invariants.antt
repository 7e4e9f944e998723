-- `device::write_around` meets its contract. First the end of the gap over the seam is written. The loop's invariant: after it the row is written up to the end of
-- the last use passed, and the rest of the buffer is as it was. Then comes the beginning of that gap.
use mathlib.Core.Path.{◌≡◌}
use mathlib.Core.List.{List, ◌++◌, map}
use Prim.Native.Nat.{ℕ, ◌+◌}
use lib.ListN.{drop}
use Rattle.base.proofs.Filling.{Filled}
use Rattle.device.specs.declared.Device.{Device}
use Rattle.device.specs.declared.Sleeps.{Sleeps}
use Rattle.device.specs.Row.{byte_of, gap_row}
use Rattle.device.specs.inside.Uses.{after_from}
use Rattle.device.proofs.Bytes.{bytes}
use Rattle.device.proofs.writer.write_around.Given as goal

-- The gap over the seam, of which n ticks lie at the row's end and b at its front.
abbrev pub seamed : Sleeps → Device → ℕ → ℕ → List ℕ
seamed sleeps d n b = map (byte_of sleeps) (gap_row d (n + b))

abbrev pub invariant-loop-i : goal.invariant-loop-i
invariant-loop-i l = (l.at ≡ after_from l.front l.u l.i) × Filled l.initial.out l.at (drop l.tail (seamed l.sleeps l.d l.tail l.front) ++ bytes l.sleeps l.u l.d l.front l.at) l.out
