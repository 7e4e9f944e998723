-- `latest::leading::lay_starts` meets its contract. The loop's invariant: what is left can still be run, and its greedy run completes the whole one.
use Rattle.flat.specs.inside.Flat.{recorder_of}
use Rattle.latest.proofs.Laying.{Going}
use Rattle.latest.proofs.leading.lay_starts.Given as goal

abbrev pub invariant-loop-m : goal.invariant-loop-m
invariant-loop-m l = Going (recorder_of l.r) l.initial.starts l.t l.m l.starts

abbrev pub decreases-loop-m : goal.decreases-loop-m
decreases-loop-m l = l.m
