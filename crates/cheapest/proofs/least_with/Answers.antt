-- `cheapest::least_with` meets its contract.
use mathlib.Core.Path.{subst}
use Prim.Native.Nat.{◌<◌}
use lib.ListN.{take}
use Rattle.schedule.specs.declared.Recorder.{Recorder}
use Rattle.schedule.specs.Quantities.{jobs}
use Rattle.schedule.specs.Listing.{FirstLeast}
use Rattle.schedule.specs.Visiting.{plan_energy}
use Rattle.least.specs.Effort.{most_vertices}
use Rattle.cheapest.proofs.Ending.{over_some, counted_is_found}
use Rattle.cheapest.proofs.least_with.Goals as goal

pub counted-requires : goal.counted-requires
counted-requires c =
    let some = over_some c.args.r c.requires.0 c.args.budget (subst (λ (X : Recorder). c.args.budget < most_vertices X) c.requires.1.0 c.in_default.ensures) in
    (c.requires.0, (some, (c.requires.1.1.1.0, c.requires.1.1.1.1)))

pub returns-clause-counted : goal.returns-clause-counted
returns-clause-counted c =
    let least = subst (λ (X : Recorder). FirstLeast X (take (jobs X) c.in-Ok.found) (plan_energy X (take (jobs X) c.in-Ok.found))) c.requires.1.0 c.in-Ok.ensures in
    counted_is_found c.args.r c.requires.0 c.in-Ok.found least c.args.budget c.args.starts.now c.requires.1.1.1.0 _ _ c.give.ensures.0 c.give.ensures.1
