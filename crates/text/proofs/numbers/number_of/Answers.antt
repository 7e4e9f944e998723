use mathlib.Core.Path.{sym, ap, ◌∙◌}
use Prim.Native.Nat.{◌+◌}
use native.Mathlib.Omega.{arith}
use lib.ListN.{get_or, drop}
use Rattle.text.specs.inside.Cursors.{number_from}
use Rattle.text.proofs.Scanning.{number_next, number_above, digit_is, number_done}
use Rattle.text.proofs.numbers.number_of.Goals as goal

pub returns-in_err-value : goal.returns-in_err-value
returns-in_err-value c =
    let l = c.loop-b in
    let f = c.args.field.now in
    let d = c.if-not-is_ascii_digit.ensures.cases in
    c.from_residual.ensures
    ∙ sym (l.invariant.1 ∙ number_above f l.value l.b-index (omega arith) (digit_is (get_or f l.b-index 0) d.0 d.1) (omega (arith, c.in_err-value.ensures)))

pub loop-b-preserved : goal.loop-b-preserved
loop-b-preserved c =
    let l = c.loop-b in
    let f = c.args.field.now in
    let d = c.if-not-is_ascii_digit.ensures.cases in
    let more = c.in_ok-value.ensures in (
      omega (arith, more.0, more.1),
      l.invariant.1 ∙ number_next f l.value l.b-index (omega arith) (digit_is (get_or f l.b-index 0) d.0 d.1)
          ∙ ap (λ v. number_from v (drop (l.b-index + 1) f)) (sym more.1),
    )

pub returns : goal.returns
returns c =
    let l = c.loop-b in
    let f = c.args.field.now in
    sym (l.invariant.1 ∙ number_done f l.value l.b-index (omega arith) (omega arith))
