use mathlib.Core.Path.{◌≡◌}
use mathlib.Core.Bool.{false}
use Prim.Native.Nat.{◌*◌}
use native.Mathlib.Omega.{arith}
use borrow.Author.Count.{below_more}
use Rattle.base.specs.Bytes.{pieces}
use Rattle.base.proofs.Pieces.{slice_is}
use Rattle.catalogue.specs.Parts.{parts_of}
use Rattle.catalogue.specs.Faults.{lacking_at}
use Rattle.catalogue.proofs.Pieces.{wanted_count, had_of, lacking_of, lacking_short}
use Rattle.catalogue.proofs.look_up.lacking_at.Goals as goal

pub returns-then-is_none : goal.returns-then-is_none
returns-then-is_none c =
    let l = c.loop-k in
    let s = c.args.catalogue.now in
    let w = c.args.wanted.now in
    let n = wanted_count w in
    let sought = rw (slice_is w 8 (8 * l.k)) at c.find.ensures in (
      omega arith,
      record { within = omega arith; before = l.invariant; here = λ h. lacking_of s w c.requires l.k c.find.result (omega arith) sought c.if-is_none.ensures },
    )

pub loop-k-preserved : goal.loop-k-preserved
loop-k-preserved c =
    let l = c.loop-k in
    let s = c.args.catalogue.now in
    let w = c.args.wanted.now in
    let sought = rw (slice_is w 8 (8 * l.k)) at c.find.ensures in
    below_more (λ i. lacking_at (parts_of s) (pieces 8 w) i ≡ false) l.k l.invariant (had_of s w c.requires l.k c.find.result (omega arith) sought c.if-is_none.ensures)

pub returns-then-wanted-eq0 : goal.returns-then-wanted-eq0
returns-then-wanted-eq0 c =
    let l = c.loop-k in
    let n = wanted_count c.args.wanted.now in
    record { within = omega arith; before = λ i m. l.invariant i (omega (arith, c.if-wanted-eq0.true)); here = λ h. absurd (omega arith) }

pub returns-else-wanted-eq0 : goal.returns-else-wanted-eq0
returns-else-wanted-eq0 c =
    let l = c.loop-k in
    let w = c.args.wanted.now in
    let n = wanted_count w in
    (omega (arith, c.if-wanted-eq0.false), record { within = omega arith; before = λ i m. l.invariant i (omega arith); here = λ h. lacking_short c.args.catalogue.now w c.requires _ (omega arith) h })
