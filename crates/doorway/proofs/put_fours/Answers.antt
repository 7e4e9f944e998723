use Rattle.std.proofs.Common.{◌≡◌, ap, ℕ, ◌+◌, ◌-◌, ◌*◌, ◌∙◌, arith, length, get_or, take, drop}
use lib.ListN.{length-drop}
use lib.Seq.{length-take-le}
use Rattle.doorway.specs.Doors.{fours}
use Rattle.doorway.proofs.Fours.{fours_none, fours_more, big_four}
use Rattle.doorway.proofs.put_fours.Goals as goal

pub loop-j-init : goal.loop-j-init
loop-j-init c = fours_none (λ i. get_or c.args.values.now i 0) c.args.bytes.now

pub loop-j-preserved : goal.loop-j-preserved
loop-j-preserved c =
    let l = c.loop-j in
    let v = c.args.values.now in
    let four : l.j * 4 + 4 - l.j * 4 ≡ 4 = omega arith in
    let long : length (take (l.j * 4 + 4 - l.j * 4) (drop (l.j * 4) l.bytes)) ≡ 4 = rw four (length-take-le 4 (drop (l.j * 4) l.bytes) (omega (arith, length-drop (l.j * 4) l.bytes, l.auto.bytes, c.requires))) in
    fours_more (λ i. get_or v i 0) l.j (l.j * 4 + 4 - l.j * 4) four l.invariant (omega (arith, c.requires)) _
    (c.copy_from_slice.ensures.after ∙ c.to_be_bytes.ensures ∙ rw long (big_four (get_or v l.j 0)))

pub returns : goal.returns
returns c =
    let l = c.loop-j in
    let all : l.j ≡ length c.args.values.now = omega arith in
    l.invariant.is ∙ ap (λ (n : ℕ). fours (λ i. get_or c.args.values.now i 0) n c.args.bytes.now) all
