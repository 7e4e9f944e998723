use mathlib.Core.Path.{sym}
use native.Mathlib.Numerals.{add-one}
use native.Mathlib.Omega.{arith}
use Rattle.base.proofs.Records.{after_more, after_one}
use Rattle.tables.specs.Records.{device_size}
use Rattle.tables.proofs.kinds.device_place.Goals as goal

pub overflow_add-at : goal.overflow_add-at
overflow_add-at c =
    let l = c.loop-k in
    let a = c.args in
    rw (c.device_size-at.ensures, l.invariant) (omega (arith, after_one (device_size a.kind a.s.now) l._k a.n 3 (omega arith), c.requires))

pub loop-k-preserved : goal.loop-k-preserved
loop-k-preserved c =
    let l = c.loop-k in
    let a = c.args in
    rw (c.device_size-at.ensures, l.invariant, add-one l._k) (sym (after_more (device_size a.kind a.s.now) l._k 3))
