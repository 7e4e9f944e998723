use mathlib.Core.Path.{◌≡◌, sym, ◌∙◌}
use mathlib.Core.Bool.{true, false}
use Prim.Native.Nat.{◌*◌}
use native.Mathlib.Omega.{arith}
use borrow.Author.Count.{below_more}
use borrow.Author.Tests.{le-leb}
use Rattle.base.proofs.Pieces.{slice_is}
use Rattle.catalogue.specs.Parts.{parts_of}
use Rattle.catalogue.specs.Faults.{unfit_at}
use Rattle.catalogue.proofs.Pieces.{parts_count, fit_at, badly_at, short_at}
use Rattle.catalogue.proofs.look_up.unfit_at.Goals as goal
use Rattle.catalogue.proofs.look_up.unfit_at.Goals.{then-k-ge64-via-then-k-ge64, then-k-ge64-via-else-k-ge64+then-not-is_formed}

pub returns-then-k-ge64 : goal.returns-then-k-ge64
returns-then-k-ge64 c =
    let l = c.loop-k in
    let s = c.args.catalogue.now in
    let n = parts_count s in
    let here : unfit_at (parts_of s) l.k ≡ true = elim c.then-k-ge64.branch [
      | then-k-ge64-via-then-k-ge64 w ↦ rw (le-leb 64 l.k (omega (arith, w.if-k-ge64.true)))
      | then-k-ge64-via-else-k-ge64+then-not-is_formed w ↦
          badly_at s l.k (omega arith) (rw (slice_is s 8 (15 * l.k)) at (sym w.is_formed.ensures ∙ w.if-not-is_formed.true))
    ]
    in
    (omega arith, record { within = omega arith; before = l.invariant; here = λ h. here })

pub loop-k-preserved : goal.loop-k-preserved
loop-k-preserved c =
    let l = c.loop-k in
    let s = c.args.catalogue.now in
    let good = sym c.is_formed.ensures ∙ c.if-not-is_formed.false in
    below_more (λ i. unfit_at (parts_of s) i ≡ false) l.k l.invariant
    (fit_at s l.k (omega arith) (omega (arith, c.if-k-ge64.false)) (rw (slice_is s 8 (15 * l.k)) at good))

pub returns-then-catalogue-eq0 : goal.returns-then-catalogue-eq0
returns-then-catalogue-eq0 c =
    let l = c.loop-k in
    let n = parts_count c.args.catalogue.now in
    record { within = omega arith; before = λ i m. l.invariant i (omega (arith, c.if-catalogue-eq0.true)); here = λ h. absurd (omega arith) }

pub returns-else-catalogue-eq0 : goal.returns-else-catalogue-eq0
returns-else-catalogue-eq0 c =
    let l = c.loop-k in
    let s = c.args.catalogue.now in
    let n = parts_count s in
    (omega (arith, c.if-catalogue-eq0.false), record { within = omega arith; before = λ i m. l.invariant i (omega arith); here = λ h. short_at s _ (omega arith) h })
