use mathlib.Core.Path.{◌≡◌, sym, ◌∙◌}
use mathlib.Core.Bool.{Bool, false}
use mathlib.Core.List.{List}
use Prim.Native.Nat.{ℕ, ◌*◌, ◌+◌, ◌-◌, ◌/◌, ◌<◌}
use native.Mathlib.Omega.{arith}
use lib.Dec.{eqb}
use lib.ListN.{length, take, drop, length-take, length-drop}
use lib.Pointwise.{pointwise}
use Rattle.base.specs.Bytes.{same}
use Rattle.base.proofs.Comparing.{same_lengths}
use Rattle.base.proofs.Pieces.{slice_is}
use Rattle.catalogue.specs.inside.Places.{number_at}
use Rattle.catalogue.proofs.Scanning.{same_start}
use Rattle.catalogue.proofs.Pieces.{passed_more}
use Rattle.catalogue.proofs.look_up.find.Goals as goal
use Rattle.catalogue.proofs.look_up.find.Goals.{else-number-eq8-via-then-number-eq8+else-starts_with, else-number-eq8-via-else-number-eq8}

-- A part's number is eight bytes long: a number of another length is not that one, and one as long is where it begins with it.
module _ (s n : List ℕ) (k : ℕ) (h : k < length s / 15) where
  eight : length (number_at s k) ≡ 8
  eight = rw (length-take, length-drop) (omega arith)

  begun : (b : Bool) → length n ≡ 8 → (let p = take (15 * k + 8 - 15 * k) (drop (15 * k) s) in b ≡ pointwise eqb p (take (length p) n)) → b ≡ same n (number_at s k)
  begun b e f = (rw (slice_is s 8 (15 * k)) at f) ∙ same_start n (number_at s k) (e ∙ sym eight)

  too_long : (length n ≡ 8 → ⊥) → same n (number_at s k) ≡ false
  too_long f = same_lengths n (number_at s k) (λ e. f (e ∙ eight))

pub returns-then-starts_with : goal.returns-then-starts_with
returns-then-starts_with c =
    let l = c.loop-k in (
      omega arith,
      record {
        from_on = omega arith;
        within = omega arith;
        others = l.invariant;
        here = λ h. sym (begun c.args.catalogue.now c.args.number.now l.k h _ c.if-number-eq8.true c.starts_with.ensures.value) ∙ c.if-starts_with.true;
      },
    )

pub loop-k-preserved : goal.loop-k-preserved
loop-k-preserved c =
    let l = c.loop-k in
    let s = c.args.catalogue.now in
    let n = c.args.number.now in
    passed_more s n 0 l.k l.invariant
    (elim c.else-number-eq8.branch [
      | else-number-eq8-via-then-number-eq8+else-starts_with w ↦ sym (begun s n l.k (omega arith) _ w.if-number-eq8.true w.starts_with.ensures.value) ∙ w.if-starts_with.false
      | else-number-eq8-via-else-number-eq8 w ↦ too_long s n l.k (omega arith) w.if-number-eq8.false
    ])
