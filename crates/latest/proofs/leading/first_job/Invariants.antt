-- `latest::leading::first_job` meets its contract. The loop's invariant: no job passed can go first.
use Prim.Native.Nat.{ℕ, ◌<◌}
use Rattle.flat.specs.inside.Flat.{recorder_of}
use Rattle.latest.specs.inside.Latest.{Opens}
use Rattle.latest.proofs.leading.first_job.Given as goal

abbrev pub invariant-loop-j : goal.invariant-loop-j
invariant-loop-j l = (i : ℕ) → i < l.j → Opens (recorder_of l.r) l.t l.m i → ⊥
