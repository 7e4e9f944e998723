use mathlib.Core.Path.{◌≡◌, subst}
use Prim.Native.Nat.{ℕ}
use native.Mathlib.Omega.{arith}
use Rattle.flat.specs.inside.Flat.{recorder_of}
use Rattle.extras.proofs.Laid.{Devices, devices_next, devices_listed, devices_all}
use Rattle.extras.proofs.laying.lay_extras.Goals as goal

pub loop-k-preserved : goal.loop-k-preserved
loop-k-preserved c = devices_next c.loop-k.invariant c.lay_device.ensures

pub returns : goal.returns
returns c =
    let w = c.lay_jobs.ensures in
    let R = recorder_of c.args.r.now in
    let all : c.loop-k.k ≡ R.devices.count = omega (arith, c.device_count-k-end.ensures) in
    let laid = subst (λ (n : ℕ). Devices R n c.loop-k.extras) all c.loop-k.invariant in
    devices_all c.requires.0 (devices_listed c.requires.0.few_devices laid w) w.lists
