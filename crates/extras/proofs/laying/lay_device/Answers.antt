-- `extras::laying::lay_device` meets its contract.
use mathlib.Core.Path.{subst}
use Prim.Native.Nat.{◌≤◌}
use native.Mathlib.Omega.{arith}
use Rattle.device.specs.declared.Device.{Device}
use Rattle.flat.specs.inside.Flat.{recorder_of}
use Rattle.schedule.specs.Quantities.{device}
use Rattle.extras.proofs.Laid.{device_laid}
use Rattle.extras.proofs.laying.lay_device.Goals as goal

pub returns : goal.returns
returns c =
    let narrow : (device (recorder_of c.args.r.now) c.args.k).pw ≤ 65535 = subst (λ (x : Device). x.pw ≤ 65535) c.device_of.ensures (omega arith) in
    let w = rw (c.device_of.ensures, c.horizon_of.ensures) at c.lay_gaps-shape.ensures in
    device_laid w.0 (omega (arith, c.requires.0.few_devices)) (omega (arith, c.requires.1.1)) narrow w.1
