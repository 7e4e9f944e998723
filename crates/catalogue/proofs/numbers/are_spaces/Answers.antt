-- `catalogue::numbers::are_spaces` meets its contract.
use Rattle.std.proofs.Common.{◌≡◌, rules, get_or}
use Rattle.std.specs.Prelude.{EachIndex, IsTrue, ◌↔◌}
use Rattle.catalogue.specs.Parts.{space}
use Rattle.catalogue.proofs.Scanning.{all_spaces}
use Rattle.catalogue.proofs.numbers.are_spaces.Goals as goal

pub returns : goal.returns
returns c =
    let s = c.args.rest.now in
    let each : IsTrue c.all.result ↔ EachIndex s (λ k. get_or s k 0 ≡ space) = search rules in
    all_spaces c.all.result s each
