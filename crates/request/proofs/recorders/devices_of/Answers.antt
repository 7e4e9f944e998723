use mathlib.Core.Path.{◌≡◌, refl, sym}
use Prim.Native.Nat.{ℕ}
use native.Mathlib.Omega.{arith}
use native.Mathlib.Numerals.{add-one}
use Rattle.base.specs.Lists.{up_to}
use Rattle.base.proofs.Arrays.{up_to_fill, length_up_to}
use Rattle.base.proofs.Records.{after_more, after_one}
use Rattle.tables.specs.Records.{device_at, device_size}
use Rattle.tables.specs.Layout.{device_place}
use Rattle.request.specs.Format.{device_of, vacant_device}
use Rattle.request.proofs.recorders.devices_of.Goals as goal

pub loop-k-init : goal.loop-k-init
unfolding up_to
loop-k-init c = (refl, c.no_devices-devices.ensures)

pub device_at-requires : goal.device_at-requires
device_at-requires c =
    let l = c.loop-k in
    let a = c.args in
    rw l.invariant.0 (omega (arith, after_one (device_size a.kind a.s.now) l.k a.n 3 (omega arith), c.requires))

pub overflow_add-at : goal.overflow_add-at
overflow_add-at c =
    let l = c.loop-k in
    let a = c.args in
    rw (c.device_size-at.ensures, l.invariant.0) (omega (arith, after_one (device_size a.kind a.s.now) l.k a.n 3 (omega arith), c.requires))

pub loop-k-preserved : goal.loop-k-preserved
loop-k-preserved c =
    let l = c.loop-k in
    let a = c.args in (
      rw (c.device_size-at.ensures, l.invariant.0, add-one l.k) (sym (after_more (device_size a.kind a.s.now) l.k 3)),
      rw (c.device_of.ensures, c.device_at.ensures, l.invariant.1, l.invariant.0, up_to_fill 8 vacant_device (λ (x : ℕ). device_of (device_at a.kind a.s.now (device_place a.kind a.s.now x))) l.k (omega arith)),
    )

pub returns : goal.returns
returns c =
    let l = c.loop-k in
    let all : l.k ≡ c.args.n = omega arith in
    rw (l.invariant.1, all, length_up_to)
