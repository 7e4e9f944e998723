-- `plan::plan_lines` meets its contract.
use native.Mathlib.Omega.{arith}
use native.Mathlib.Nat.{mul-le-mul}
use Rattle.plan.proofs.plan_lines.Goals as goal

pub device_lines-requires : goal.device_lines-requires
device_lines-requires c =
    let v = c.requires.0 in
    omega (arith, mul-le-mul v.few_devices v.few_ticks, c.rows_of.auto)
