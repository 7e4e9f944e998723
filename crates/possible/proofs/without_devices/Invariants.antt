-- `possible::without_devices` meets its contract. The loop's invariant: the first j jobs use no device.
use mathlib.Core.Path.{◌≡◌}
use Rattle.possible.proofs.Idling.{Idled}
use Rattle.possible.proofs.without_devices.Given as goal

abbrev pub invariant-loop-j : goal.invariant-loop-j
invariant-loop-j l = (l.jobs.count ≡ l.r.jobs.count) × Idled l.j l.r.jobs.list l.jobs.list
