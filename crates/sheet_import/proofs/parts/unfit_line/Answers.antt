use mathlib.Core.Path.{◌≡◌, sym, ◌∙◌}
use mathlib.Core.Bool.{true, false}
use native.Mathlib.Omega.{arith}
use borrow.Author.Count.{below_more}
use borrow.Author.Tests.{not-true, not-false}
use Rattle.catalogue.specs.Faults.{unfit_at}
use Rattle.text.specs.Grammar.{lines_of}
use Rattle.sheet_import.specs.inside.Reading.{devices_raw}
use Rattle.sheet_import.proofs.Places.{raw_many, raw_badly, raw_fit}
use Rattle.sheet_import.proofs.parts.unfit_line.Goals as goal
use Rattle.sheet_import.proofs.parts.unfit_line.Goals.{then-k-ge64-via-then-k-ge64, then-k-ge64-via-else-k-ge64+then-is_bad}

pub is_bad-requires : goal.is_bad-requires
is_bad-requires c = rw c.line.ensures (c.requires.1 c.loop-k.k (omega (arith, c.requires.0))).reads

pub returns-then-k-ge64 : goal.returns-then-k-ge64
returns-then-k-ge64 c =
    let l = c.loop-k in
    let ls = lines_of c.args.text.now in
    let here : unfit_at (devices_raw ls) l.k ≡ true = elim c.then-k-ge64.branch [
      | then-k-ge64-via-then-k-ge64 w ↦ raw_many ls l.k (omega (arith, c.requires.0)) (omega (arith, w.if-k-ge64.true))
      | then-k-ge64-via-else-k-ge64+then-is_bad w ↦
          raw_badly ls l.k (omega (arith, c.requires.0)) (not-true _ (rw w.line.ensures at (sym w.is_bad.ensures ∙ w.if-is_bad.true)))
    ]
    in
    (omega arith, record { within = omega arith; before = l.invariant; here = λ h. here })

pub loop-k-preserved : goal.loop-k-preserved
loop-k-preserved c =
    let l = c.loop-k in
    let ls = lines_of c.args.text.now in
    let good = rw c.line.ensures at (sym c.is_bad.ensures ∙ c.if-is_bad.false) in
    below_more (λ i. unfit_at (devices_raw ls) i ≡ false) l.k l.invariant (raw_fit ls l.k (omega (arith, c.requires.0)) (omega (arith, c.if-k-ge64.false)) (not-false _ good))
