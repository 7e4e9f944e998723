use mathlib.Core.Path.{◌≡◌, sym, ap, ◌∙◌}
use Prim.Native.Nat.{ℕ, suc, ◌+◌, ◌-◌}
use native.Mathlib.Omega.{arith}
use lib.ListN.{drop, get_or, length-drop}
use lib.Seq.{drop-drop}
use mathlib.Core.List.{[]}
use Rattle.text.specs.Grammar.{lines_of}
use Rattle.text.specs.inside.Cursors.{line_length, next_line}
use Rattle.text.proofs.Scanning.{next_within, line_within, line_zero, line_later}
use Rattle.base.proofs.Pieces.{part_rest}
use Rattle.text.proofs.lines.line.Goals as goal

pub loop-init : goal.loop-init
loop-init c = (omega arith, omega arith, ap (λ (x : ℕ). get_or (lines_of c.args.text.now) x []) (omega arith))

pub overflow_add-at : goal.overflow_add-at
overflow_add-at c =
    let l = c.loop in
    let s = c.args.text.now in
    let e = c.next_line-at.ensures ∙ ap next_line (part_rest s l.at) in
    let within = next_within (drop l.at s) in
    let long = length-drop l.at s in
    omega arith

pub loop-preserved : goal.loop-preserved
loop-preserved c =
    let l = c.loop in
    let s = c.args.text.now in
    let e = c.next_line-at.ensures ∙ ap next_line (part_rest s l.at) in
    let within = next_within (drop l.at s) in
    let long = length-drop l.at s in
    let k = c.args.k in
    let one : k - l.counter ≡ suc (k - (l.counter + 1)) = omega arith in
    let rest = drop-drop (next_line (drop l.at s)) l.at s in
    let later = line_later (drop l.at s) (k - (l.counter + 1)) in
    (omega arith, omega arith, rw (e, ← rest) (l.invariant.2 ∙ ap (λ (x : ℕ). get_or (lines_of (drop l.at s)) x []) one ∙ later))

pub overflow_add-end : goal.overflow_add-end
overflow_add-end c =
    let l = c.loop in
    let s = c.args.text.now in
    let e = c.line_end.ensures ∙ ap line_length (part_rest s l.at) in
    let within = line_within (drop l.at s) in
    let long = length-drop l.at s in
    omega arith

pub slice_bounds-result-count : goal.slice_bounds-result-count
slice_bounds-result-count c =
    let l = c.loop in
    let s = c.args.text.now in
    let e = c.line_end.ensures ∙ ap line_length (part_rest s l.at) in
    let within = line_within (drop l.at s) in
    let long = length-drop l.at s in
    omega arith

pub slice_bounds-result-end : goal.slice_bounds-result-end
slice_bounds-result-end c =
    let l = c.loop in
    let s = c.args.text.now in
    let e = c.line_end.ensures ∙ ap line_length (part_rest s l.at) in
    let within = line_within (drop l.at s) in
    let long = length-drop l.at s in
    omega arith

pub returns : goal.returns
returns c =
    let l = c.loop in
    let s = c.args.text.now in
    let e = c.line_end.ensures ∙ ap line_length (part_rest s l.at) in
    let within = line_within (drop l.at s) in
    let long = length-drop l.at s in
    let zero : c.args.k - l.counter ≡ 0 = omega arith in
    let size : l.at + c.line_end.result - l.at ≡ line_length (drop l.at s) = omega arith in
    rw size (sym (l.invariant.2 ∙ ap (λ (x : ℕ). get_or (lines_of (drop l.at s)) x []) zero ∙ line_zero (drop l.at s)))
