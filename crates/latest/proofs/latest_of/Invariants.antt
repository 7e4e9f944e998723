-- `latest::latest_of` meets its contract. The loop's invariant: the jobs passed are offered.
use mathlib.Core.Path.{◌≡◌}
use lib.ListN.{get_or}
use Rattle.base.specs.Loops.{each}
use Rattle.flat.specs.inside.Flat.{recorder_of}
use Rattle.latest.specs.inside.Latest.{offer}
use Rattle.latest.proofs.latest_of.Given as goal

abbrev pub invariant-loop-j : goal.invariant-loop-j
invariant-loop-j l = l.best ≡ each (offer (recorder_of l.r) (λ i. get_or l.table i 0) l.m) l.j 0
