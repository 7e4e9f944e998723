-- `device::energy::gap_energy` meets its contract. No gap costs more than work throughout.
use mathlib.Core.Path.{◌≡◌, sym, ◌∙◌}
use Prim.Native.Nat.{◌≤◌}
use native.Mathlib.Nat.{mul-le-mul_right}
use native.Mathlib.Omega.{arith}
use Rattle.device.specs.Row.{gap_cost}
use Rattle.device.proofs.Chosen.{gap_energy, gap_most}
use Rattle.device.proofs.energy.gap_energy.Goals as goal

pub gap_trip-requires : goal.gap_trip-requires
gap_trip-requires c = c.requires

pub returns : goal.returns
returns c =
    let a = c.args in
    let e : c.gap_trip.result.cost ≡ gap_cost a.d a.g = c.gap_trip.ensures.cost ∙ sym (gap_energy a.d a.g) in
    let power : a.d.pw ≤ 65535 = omega (arith, c.well_formed.0) in
    (e, omega (arith, gap_most a.d a.g, mul-le-mul_right a.g power))
