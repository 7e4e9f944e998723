use mathlib.Core.Path.{◌≡◌, sym, ◌∙◌}
use native.Mathlib.Omega.{arith}
use native.Mathlib.Numerals.{add-one}
use Rattle.base.proofs.Records.{after_more}
use Rattle.tables.specs.Records.{device_size}
use Rattle.table_bytes.proofs.Sizes.{device_most_lem, devices_most}
use Rattle.table_bytes.proofs.devices_end.Goals as goal

pub overflow_add-at : goal.overflow_add-at
overflow_add-at c =
    let l = c.loop-k in
    let a = c.args in
    omega (arith, l.invariant, c.requires, c.device_size-at.ensures, device_most_lem a.kind a.s.now l.at, devices_most a.kind a.s.now l._k)

pub loop-k-preserved : goal.loop-k-preserved
loop-k-preserved c =
    let l = c.loop-k in
    let a = c.args in
    rw (c.device_size-at.ensures, l.invariant, add-one l._k) (sym (after_more (device_size a.kind a.s.now) l._k 9))

pub returns : goal.returns
returns c =
    let l = c.loop-k in
    let a = c.args in
    let all : l._k ≡ a.n = omega arith in
    (l.invariant ∙ rw all, omega (arith, l.invariant, c.requires, devices_most a.kind a.s.now l._k))
