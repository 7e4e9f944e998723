use mathlib.Core.Path.{sym, ◌∙◌}
use native.Mathlib.Omega.{arith}
use Rattle.catalogue.proofs.Scanning.{front_next, front_stop, front_end}
use Rattle.catalogue.proofs.numbers.signs_of.Goals as goal

pub returns-then-not-is_sign : goal.returns-then-not-is_sign
returns-then-not-is_sign c =
    let l = c.loop-i in
    sym (l.invariant ∙ front_stop _ l.i (omega arith) (sym c.is_sign.ensures ∙ c.if-not-is_sign.true))

pub loop-i-preserved : goal.loop-i-preserved
loop-i-preserved c =
    let l = c.loop-i in
    l.invariant ∙ front_next _ l.i (omega arith) (sym c.is_sign.ensures ∙ c.if-not-is_sign.false)

pub returns : goal.returns
returns c =
    let l = c.loop-i in
    omega (arith, l.invariant, front_end c.args.number.now l.i (omega arith))
