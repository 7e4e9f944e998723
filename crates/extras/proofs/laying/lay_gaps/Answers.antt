use mathlib.Core.Path.{◌≡◌}
use native.Mathlib.Numerals.{add-one}
use native.Mathlib.Omega.{arith}
use Rattle.extras.proofs.Laid.{below_none, below_next, below_all}
use Rattle.extras.proofs.Shaping.{shape_none, before_none, shape_next, before_next}
use Rattle.extras.proofs.laying.lay_gaps.Goals as goal

pub loop-g-init : goal.loop-g-init
loop-g-init c = record {
  laid = below_none;
  shape = shape_none c.args.d;
  last = before_none c.args.d;
  stays = λ e. cc;
}

pub loop-g-preserved : goal.loop-g-preserved
loop-g-preserved c =
    let i = c.loop-g.invariant in
    let is = c.next_gap-gap.ensures.0 in
    record {
      laid = below_next i.laid (omega arith) is;
      shape = shape_next c.args.d c.loop-g.g is i.shape c.from.ensures i.last c.shape_with-shape.ensures;
      last = before_next c.args.d c.loop-g.g is;
      stays = c.next_gap-gap.ensures.1;
    }

pub returns-2 : goal.returns-2
returns-2 c =
    let i = c.loop-g.invariant in
    let is = c.next_gap-gap.ensures.0 in
    let all : c.args.h ≡ c.loop-g.g = omega arith in (
      below_all (below_next i.laid (omega arith) is) (omega arith),
      rw (all, ← add-one c.loop-g.g) (shape_next c.args.d c.loop-g.g is i.shape c.from.ensures i.last c.shape_with-shape.ensures),
    )
