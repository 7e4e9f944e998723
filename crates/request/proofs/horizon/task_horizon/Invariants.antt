-- What is left to do of the least common multiple is the whole of it; once it passes 4,096 the rest makes it no smaller.
use mathlib.Core.Path.{◌≡◌}
use Prim.Native.Nat.{◌≤◌, ◌+◌, ◌-◌, ◌*◌}
use Rattle.request.specs.Format.{lcm_from}
use Rattle.request.specs.inside.Held.{SoundTasks}
use Rattle.request.proofs.horizon.task_horizon.Given as goal

abbrev pub invariant-loop-i : goal.invariant-loop-i
invariant-loop-i l =
    SoundTasks l.s (l.tasks - l.i) (l.from + l.i * 5) × (l.h ≤ 4096) × (lcm_from l.s l.tasks l.from 1 ≡ lcm_from l.s (l.tasks - l.i) (l.from + l.i * 5) l.h)
