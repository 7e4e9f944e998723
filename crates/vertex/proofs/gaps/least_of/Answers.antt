-- `vertex::gaps::least_of` meets its contract.
use native.Mathlib.Omega.{arith}
use Rattle.vertex.proofs.Ending.{gaps_least}
use Rattle.vertex.proofs.gaps.least_of.Goals as goal

pub returns : goal.returns
returns c =
    let w = c.gaps_of.ensures in
    (λ t a b. omega (arith, w.0, gaps_least _ c.args.v.now c.args.extras.now c.requires.0 c.args.j c.args.s t a b), w.1)
