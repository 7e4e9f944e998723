-- `vertex::gaps::lead_of` meets its contract.
use mathlib.Core.Path.{◌∙◌}
use Rattle.vertex.proofs.Ending.{gaps_lead}
use Rattle.vertex.proofs.gaps.lead_of.Goals as goal

pub returns : goal.returns
returns c =
    let w = c.gaps_of.ensures in
    (w.0 ∙ gaps_lead _ c.args.v.now c.args.extras.now c.requires.0 c.args.j c.args.s c.requires.1.1.by, w.1)
