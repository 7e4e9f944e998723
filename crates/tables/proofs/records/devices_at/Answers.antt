use mathlib.Core.Path.{refl, sym}
use Prim.Native.Nat.{ℕ}
use native.Mathlib.Omega.{arith}
use native.Mathlib.Numerals.{add-one}
use Rattle.base.specs.Lists.{up_to, padded}
use Rattle.base.specs.Refusals.{after}
use Rattle.base.proofs.Arrays.{up_to_fill}
use Rattle.base.proofs.Records.{after_more, after_one}
use Rattle.tables.specs.Records.{device_at, device_size, blank_device}
use Rattle.tables.proofs.records.devices_at.Goals as goal

pub loop-k-init : goal.loop-k-init
unfolding up_to padded
loop-k-init c = (refl, rw c.blank_device-list.ensures)

pub device_at-requires : goal.device_at-requires
device_at-requires c =
    let l = c.loop-k in
    let a = c.args in
    rw l.invariant.0 (omega (arith, after_one (device_size a.kind a.s.now) l.k a.n a.from (omega arith), c.requires))

pub overflow_add-at : goal.overflow_add-at
overflow_add-at c =
    let l = c.loop-k in
    let a = c.args in
    rw (c.device_size-at.ensures, l.invariant.0) (omega (arith, after_one (device_size a.kind a.s.now) l.k a.n a.from (omega arith), c.requires))

pub loop-k-preserved : goal.loop-k-preserved
loop-k-preserved c =
    let l = c.loop-k in
    let a = c.args in (
      rw (c.device_size-at.ensures, l.invariant.0, add-one l.k) (sym (after_more (device_size a.kind a.s.now) l.k a.from)),
      rw (c.device_at.ensures, l.invariant.1, l.invariant.0) (up_to_fill 8 blank_device (λ (x : ℕ). device_at a.kind a.s.now (after (device_size a.kind a.s.now) x a.from)) l.k (omega arith)),
    )
