use mathlib.Core.Path.{◌≡◌, sym}
use mathlib.Core.Bool.{false}
use Prim.Native.Nat.{◌*◌}
use native.Mathlib.Omega.{arith}
use borrow.Author.Count.{below_more}
use Rattle.base.proofs.Pieces.{slice_is}
use Rattle.catalogue.specs.Parts.{parts_of}
use Rattle.catalogue.specs.Faults.{repeated_at}
use Rattle.catalogue.proofs.Pieces.{whole_parts, again_of, new_of}
use Rattle.catalogue.proofs.look_up.repeated_at.Goals as goal

pub returns : goal.returns
returns c =
    let l = c.loop-k in
    let all = whole_parts c.args.catalogue.now c.requires in
    record { within = omega arith; before = λ i m. l.invariant i (omega arith); here = λ h. absurd (omega arith) }

pub returns-then-is_some : goal.returns-then-is_some
returns-then-is_some c =
    let l = c.loop-k in
    let s = c.args.catalogue.now in
    let all = whole_parts s c.requires in
    let sought = rw (slice_is s 8 (15 * l.k)) at c.find.ensures in
    (omega arith, record { within = omega arith; before = l.invariant; here = λ h. again_of s c.requires l.k (omega arith) c.find.result sought (sym c.if-is_some.ensures) })

pub loop-k-preserved : goal.loop-k-preserved
loop-k-preserved c =
    let l = c.loop-k in
    let s = c.args.catalogue.now in
    let sought = rw (slice_is s 8 (15 * l.k)) at c.find.ensures in
    below_more (λ i. repeated_at (parts_of s) i ≡ false) l.k l.invariant (new_of s c.requires l.k (omega arith) c.find.result sought (sym c.if-is_some.ensures))
