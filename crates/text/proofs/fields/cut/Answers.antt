use mathlib.Core.Path.{sym, ◌∙◌}
use native.Mathlib.Omega.{arith}
use lib.ListN.{length}
use Rattle.text.specs.inside.Cursors.{cut_of}
use Rattle.text.proofs.Cutting.{told_stray, told_whole, further, cut_stray, cut_ends, cut_goes, cut_end}
use Rattle.text.proofs.fields.cut.Goals as goal

pub returns-in-Stray : goal.returns-in-Stray
returns-in-Stray c =
    let l = c.loop-i in
    let s = c.args.s.now in
    let r = cut_stray l.state s l.i (omega arith) (sym c.turn_at.ensures ∙ c.in-Stray.is) in
    told_stray (cut_of s) l.i (further s l.i l.state 0 l.i l.invariant r (omega arith))

pub returns-in-Ends : goal.returns-in-Ends
returns-in-Ends c =
    let l = c.loop-i in
    let s = c.args.s.now in
    let r = cut_ends l.state s l.i (omega arith) (sym c.turn_at.ensures ∙ c.in-Ends.is) in
    told_whole (cut_of s) l.i (further s l.i l.state 0 l.i l.invariant r (omega arith))

pub loop-i-preserved : goal.loop-i-preserved
loop-i-preserved c =
    let l = c.loop-i in
    let s = c.args.s.now in
    let r = cut_goes l.state s l.i (omega arith) _ (sym c.turn_at.ensures ∙ c.in-Goes.is) in
    further s l.i l.state _ _ l.invariant r (omega arith)

pub returns-then-is_over : goal.returns-then-is_over
returns-then-is_over c =
    let l = c.loop-i in
    let s = c.args.s.now in
    let r = cut_end l.state s l.i (omega arith) in
    told_whole (cut_of s) (length s) (rw (sym c.is_over.ensures ∙ c.if-is_over.true) at (further s l.i l.state 0 (length s) l.invariant r (omega arith)))

pub returns-else-is_over : goal.returns-else-is_over
returns-else-is_over c =
    let l = c.loop-i in
    let s = c.args.s.now in
    let r = cut_end l.state s l.i (omega arith) in
    told_stray (cut_of s) (length s) (rw (sym c.is_over.ensures ∙ c.if-is_over.false) at (further s l.i l.state 0 (length s) l.invariant r (omega arith)))
