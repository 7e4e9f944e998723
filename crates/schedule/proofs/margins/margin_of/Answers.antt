-- `schedule::margins::margin_of` meets its contract.
use mathlib.Core.Path.{◌∙◌}
use Prim.Native.Nat.{◌+◌, ◌<◌, ◌^◌}
use native.Mathlib.Omega.{arith}
use mir.Facts.{to_z-of_z}
use Rattle.schedule.proofs.Signs.{difference, difference_fits}
use Rattle.schedule.proofs.margins.margin_of.Goals as goal

pub overflow_sub-result : goal.overflow_sub-result
overflow_sub-result c =
    let d : c.args.deadline < 2 ^ 31 = omega arith in
    let e : c.args.start + c.args.run < 2 ^ 31 = omega arith in
    rw (difference c.args.deadline (c.args.start + c.args.run) d e) (difference_fits c.args.deadline (c.args.start + c.args.run) d e)

pub returns : goal.returns
returns c =
    let d : c.args.deadline < 2 ^ 31 = omega arith in
    let e : c.args.start + c.args.run < 2 ^ 31 = omega arith in
    to_z-of_z (overflow_sub-result c) ∙ difference c.args.deadline (c.args.start + c.args.run) d e
