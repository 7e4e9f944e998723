use mathlib.Core.Path.{◌≡◌, sym}
use Prim.Native.Nat.{◌*◌, ◌/◌, ◌≤◌, min}
use native.Mathlib.Omega.{arith}
use lib.ListN.{length}
use Rattle.base.specs.Lists.{up_to, padded}
use Rattle.base.proofs.Arrays.{up_to_fill}
use Rattle.base.proofs.Pieces.{slice_is}
use Rattle.tables.specs.Records.{blank_device}
use Rattle.catalogue.proofs.Pieces.{wanted_has, record_for, wanted_devices}
use Rattle.catalogue.proofs.look_up.devices_of.Goals as goal

pub loop-k-init : goal.loop-k-init
unfolding up_to padded
loop-k-init c = rw c.blank_device.ensures

pub record_of-requires : goal.record_of-requires
record_of-requires c =
    let s = c.args.catalogue.now in
    let w = c.args.wanted.now in
    let k = c.loop-k.k in
    (c.requires.0, rw (slice_is w 8 (8 * k)) (wanted_has s w c.requires.0 c.requires.1 k (omega (arith, c.min-k-end.ensures))))

pub loop-k-preserved : goal.loop-k-preserved
loop-k-preserved c =
    let l = c.loop-k in
    let s = c.args.catalogue.now in
    let w = c.args.wanted.now in
    let few : l.k ≤ 7 = omega (arith, c.min-k-end.ensures) in
    rw (c.record_of.ensures, l.invariant, slice_is w 8 (8 * l.k), up_to_fill 8 blank_device (record_for s w) l.k (omega arith))

pub returns : goal.returns
returns c =
    let l = c.loop-k in
    let s = c.args.catalogue.now in
    let w = c.args.wanted.now in
    let all : l.k ≡ c.min-k-end.result = omega arith in
    let few : min (length w / 8) 8 ≡ min 8 (length w / 8) = omega arith in
    rw (l.invariant, all, c.min-k-end.ensures, few) (sym (wanted_devices s w c.requires.0 c.requires.1))
