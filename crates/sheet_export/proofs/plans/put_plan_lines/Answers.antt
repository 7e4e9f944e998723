use mathlib.Core.Path.{◌≡◌, sym, ap, ◌∙◌}
use native.Mathlib.Omega.{arith}
use mathlib.Core.List.{map}
use lib.IntN.{pos, nat_abs}
use lib.ListN.{length, get_or, get_or-map}
use Rattle.text.proofs.Puts.{put_more, put_none, put_length, three_few}
use Rattle.sheet.specs.Sheets.{plan_line}
use Rattle.sheet_export.proofs.Spares.{spare_read}
use Rattle.sheet_export.proofs.PlanLines.{text_more, text_none}
use Rattle.sheet_export.proofs.plans.put_plan_lines.Goals as goal

pub loop-j-init : goal.loop-j-init
loop-j-init c =
    let a = c.args in
    (omega arith, rw (← text_none (plan_line a.starts.now (map nat_abs a.margins.now))) (put_none 0 _))

pub overflow_cast-j : goal.overflow_cast-j
overflow_cast-j c = omega (arith, c.requires.0)

pub bounds-margins-j : goal.bounds-margins-j
bounds-margins-j c = omega (arith, c.requires.0, c.requires.1)

pub spare_of-requires : goal.spare_of-requires
spare_of-requires c =
    let h = c.requires.3 c.loop-j.j in
    let z = get_or c.args.margins.now c.loop-j.j (pos 0) in
    rw (spare_read z h) h

pub put_line-at-requires : goal.put_line-at-requires
put_line-at-requires c =
    let l = c.loop-j in
    let kept = put_length l.invariant.1 (omega (arith, c.requires.0, c.requires.2)) in
    omega (arith, c.requires.0, c.requires.2, three_few l.j (get_or c.args.starts.now l.j 0) c.spare_of.result)

pub loop-j-preserved : goal.loop-j-preserved
loop-j-preserved c =
    let l = c.loop-j in
    let s = c.args.starts.now in
    let ms = map nat_abs c.args.margins.now in
    let m : c.spare_of.result ≡ get_or ms l.j 0 = c.spare_of.ensures ∙ ap nat_abs (spare_read (get_or c.args.margins.now l.j (pos 0)) (c.requires.3 l.j)) ∙ sym (get_or-map nat_abs c.args.margins.now l.j (pos 0)) in
    let put = rw m at c.put_line-at.ensures in
    let few = three_few l.j (get_or s l.j 0) (get_or ms l.j 0) in
    let more = put_more l.invariant.1 put (omega (arith, c.requires.0, c.requires.2, put.next)) in
    (omega (arith, put.next), rw (text_more (plan_line s ms) l.j) more)

pub returns : goal.returns
returns c =
    let l = c.loop-j in
    let all : l.j ≡ length c.args.starts.now = omega arith in
    (omega (arith, c.requires.0), rw (← all) l.invariant.1)
