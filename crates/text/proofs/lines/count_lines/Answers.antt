use mathlib.Core.Path.{ap, ◌∙◌}
use native.Mathlib.Omega.{arith}
use lib.ListN.{length, drop, length-drop}
use lib.Seq.{drop-drop}
use Rattle.text.specs.inside.Cursors.{next_line}
use Rattle.text.proofs.Scanning.{next_within, next_some, line_first, lines_past}
use Rattle.base.proofs.Pieces.{part_rest}
use Rattle.text.proofs.lines.count_lines.Goals as goal

pub loop-at-init : goal.loop-at-init
loop-at-init c = (omega arith, omega arith, omega arith)

pub overflow_add-at : goal.overflow_add-at
overflow_add-at c =
    let l = c.loop-at in
    let s = c.args.text.now in
    let e = c.next_line-at.ensures ∙ ap next_line (part_rest s l.at) in
    let within = next_within (drop l.at s) in
    let long = length-drop l.at s in
    omega arith

pub overflow_add-count : goal.overflow_add-count
overflow_add-count c =
    let l = c.loop-at in
    let s = c.args.text.now in
    let e = c.next_line-at.ensures ∙ ap next_line (part_rest s l.at) in
    let within = next_within (drop l.at s) in
    let long = length-drop l.at s in
    omega arith

pub loop-at-smaller : goal.loop-at-smaller
loop-at-smaller c =
    let l = c.loop-at in
    let s = c.args.text.now in
    let e = c.next_line-at.ensures ∙ ap next_line (part_rest s l.at) in
    let within = next_within (drop l.at s) in
    let long = length-drop l.at s in
    let some = next_some (drop l.at s) (omega arith) in
    omega arith

pub loop-at-preserved : goal.loop-at-preserved
loop-at-preserved c =
    let l = c.loop-at in
    let s = c.args.text.now in
    let e = c.next_line-at.ensures ∙ ap next_line (part_rest s l.at) in
    let within = next_within (drop l.at s) in
    let long = length-drop l.at s in
    let some = next_some (drop l.at s) (omega arith) in
    let first = ap length (line_first (drop l.at s) (omega arith)) in
    let rest = drop-drop (next_line (drop l.at s)) l.at s in
    (omega arith, omega arith, rw (e, ← rest) (omega arith))

pub returns : goal.returns
returns c =
    let l = c.loop-at in
    let s = c.args.text.now in
    omega (arith, ap length (lines_past s l.at (omega arith)), l.invariant.2)
