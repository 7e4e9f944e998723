-- `extras::laying::lay_gaps` meets its contract. The loop's invariant: the shorter gaps are laid, the shape is theirs, and where the last one is slept through at the
-- deepest level the others have its extra.
use mathlib.Core.Path.{◌≡◌}
use mathlib.Core.Bool.{true}
use Rattle.extras.specs.inside.Shapes.{Stays, extra_before, shape_of}
use Rattle.extras.proofs.Laid.{Below}
use Rattle.extras.proofs.laying.lay_gaps.Given as goal

abbrev pub invariant-loop-g : goal.invariant-loop-g
invariant-loop-g l =
    record {
      laid : Below l.d l.k l.g l.initial.extras l.extras;
      shape : l.shape ≡ shape_of l.d l.g;
      last : l.last.extra ≡ extra_before l.d l.g;
      stays : l.last.deepest ≡ true → Stays l.d l.g l.last.extra;
    }
