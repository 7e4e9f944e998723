-- `steps::run` meets its contract. The loop's invariant: the record is that after the jobs passed.
use mathlib.Core.Path.{◌≡◌}
use Rattle.base.specs.Loops.{each}
use Rattle.steps.specs.inside.Running.{after, fresh, turn}
use Rattle.steps.proofs.stepping.run.Given as goal

abbrev pub invariant-loop-i : goal.invariant-loop-i
invariant-loop-i l = (l.at ≡ after l.o l.i) × (l.x ≡ each (turn l.d l.h l.o) l.i fresh)
