-- `extras::laying::next_gap` meets its contract.
use mathlib.Core.Path.{◌≡◌, sym, ◌∙◌}
use Prim.Native.Nat.{◌*◌, ◌≤◌}
use native.Mathlib.Omega.{arith}
use borrow.Author.Tests.{eqb-true}
use Rattle.device.specs.Row.{gap_cost}
use Rattle.device.proofs.Chosen.{gap_low, gap_energy}
use Rattle.extras.proofs.Laid.{extra_is}
use Rattle.extras.proofs.Deepest.{deepest_stays}
use Rattle.extras.proofs.laying.next_gap.Goals as goal

pub overflow_sub-result : goal.overflow_sub-result
overflow_sub-result c =
    let sleep-low : c.args.sleep * c.from.result ≤ c.gap_trip-trip.result.cost = rw (c.requires.1.0, c.from.ensures, c.gap_trip-trip.ensures.cost, ← gap_energy c.args.d c.args.g) (gap_low c.args.d c.requires.0 c.args.g) in
    omega (arith, sleep-low)

pub returns : goal.returns
returns c =
    let cost-is : c.gap_trip-trip.result.cost ≡ gap_cost c.args.d c.args.g = c.gap_trip-trip.ensures.cost ∙ sym (gap_energy c.args.d c.args.g) in
    let is = extra_is c.args.d c.args.g cost-is c.requires.1.0 c.from.ensures in
    (is, λ e t l. deepest_stays c.args.d c.requires.0 c.args.g (sym c.gap_trip-trip.ensures.level ∙ eqb-true _ _ e) t (omega arith) ∙ sym is)
