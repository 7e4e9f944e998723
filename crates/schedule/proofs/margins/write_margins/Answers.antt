use mathlib.Core.Path.{◌≡◌, ◌∙◌}
use Prim.Native.Nat.{◌<◌, ◌+◌, ◌^◌}
use native.Mathlib.Omega.{arith}
use mir.Syntax.{w32}
use mir.Val.{to_z, of_z}
use mir.Facts.{to_z-of_z}
use Rattle.base.proofs.Filling.{filled_start, filled_value, filled_length}
use Rattle.schedule.specs.Quantities.{jobs, deadline, run}
use Rattle.schedule.specs.Listing.{start, margin}
use Rattle.schedule.proofs.Signs.{difference_fits}
use Rattle.schedule.proofs.margins.write_margins.Goals as goal

pub loop-j-init : goal.loop-j-init
loop-j-init c = (c.requires.2, filled_start _ _)

pub bounds-out-j : goal.bounds-out-j
bounds-out-j c = let i = c.loop-j.invariant in omega (arith, filled_length i.1 (omega arith))

pub loop-j-preserved : goal.loop-j-preserved
loop-j-preserved c =
    let stored : to_z w32 (of_z w32 c.margin_of.result) ≡ margin c.args.r c.args.starts.now c.loop-j.j = let R = c.args.r in
    let s = c.args.starts.now in
    let j = c.loop-j.j in
    let valid = c.requires.0 in
    let l : j < jobs R = omega arith in
    let d : deadline R j < 2 ^ 31 = omega (arith, valid.ends j l) in
    let e : start s j + run R j < 2 ^ 31 = omega (arith, valid.fits j l, valid.ends j l, c.type_inv.starts j) in
    rw c.margin_of.ensures (to_z-of_z (difference_fits (deadline R j) (start s j + run R j) d e)) in
    let i = c.loop-j.invariant in (i.0, filled_value _ i.1 (omega arith) _ stored)

pub shape_of-out : goal.shape_of-out
shape_of-out c = let i = c.loop-j.invariant in filled_length i.1 (omega arith)

pub returns : goal.returns
returns c = let i = c.loop-j.invariant in let e : c.loop-j.j ≡ jobs c.args.r = omega arith in i.1.is ∙ rw e
