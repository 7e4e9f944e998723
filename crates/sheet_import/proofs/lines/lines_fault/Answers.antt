use mathlib.Core.Path.{◌≡◌, sym, ap, ◌∙◌}
use Prim.Native.Nat.{ℕ, ◌+◌, ◌-◌}
use native.Mathlib.Numerals.{add-one}
use native.Mathlib.Omega.{arith}
use lib.ListN.{take, drop, length-drop}
use lib.Seq.{drop-drop}
use Rattle.base.proofs.Numbered.{some_number}
use Rattle.text.specs.inside.Cursors.{line_length, next_line}
use Rattle.text.proofs.Scanning.{line_ends, line_begins}
use Rattle.sheet.specs.Sheets.{line_fault}
use Rattle.sheet_import.proofs.Places.{walk_err, walk_ok, walk_done}
use Rattle.sheet_import.proofs.lines.lines_fault.Goals as goal

pub overflow_add-end : goal.overflow_add-end
overflow_add-end c =
    let ends = line_ends c.args.text.now c.loop-at.at c.line_end.result c.loop-at.invariant.0 c.line_end.ensures in
    omega arith

pub slice_bounds-line_fault-end : goal.slice_bounds-line_fault-end
slice_bounds-line_fault-end c =
    let ends = line_ends c.args.text.now c.loop-at.at c.line_end.result c.loop-at.invariant.0 c.line_end.ensures in
    omega arith

pub returns-in-Err : goal.returns-in-Err
returns-in-Err c =
    let l = c.loop-at in
    let rows = c.args.rows in
    let s = c.args.text.now in
    let rest = drop l.at s in
    let long = length-drop l.at s in
    let ends = line_ends s l.at c.line_end.result l.invariant.0 c.line_end.ensures in
    let size : l.at + c.line_end.result - l.at ≡ line_length rest = omega arith in
    let judged = c.in-Err.ensures ∙ ap (λ (x : ℕ). line_fault rows (take x rest)) size in
    walk_err rows l.line rest _ (omega arith) (some_number c.in-Err.reason) judged ∙ sym l.invariant.2

pub overflow_add-at : goal.overflow_add-at
overflow_add-at c =
    let l = c.loop-at in
    let begins = line_begins c.args.text.now l.at c.next_line-at.result c.loop-at-test.true c.next_line-at.ensures in
    omega arith

pub overflow_add-line : goal.overflow_add-line
overflow_add-line c =
    let l = c.loop-at in
    let begins = line_begins c.args.text.now l.at c.next_line-at.result c.loop-at-test.true c.next_line-at.ensures in
    omega arith

pub loop-at-smaller : goal.loop-at-smaller
loop-at-smaller c =
    let l = c.loop-at in
    let begins = line_begins c.args.text.now l.at c.next_line-at.result c.loop-at-test.true c.next_line-at.ensures in
    omega arith

pub loop-at-preserved : goal.loop-at-preserved
loop-at-preserved c =
    let l = c.loop-at in
    let rows = c.args.rows in
    let s = c.args.text.now in
    let left = drop l.at s in
    let long = length-drop l.at s in
    let ends = line_ends s l.at c.line_end.result l.invariant.0 c.line_end.ensures in
    let begins = line_begins s l.at c.next_line-at.result c.loop-at-test.true c.next_line-at.ensures in
    let size : l.at + c.line_end.result - l.at ≡ line_length left = omega arith in
    let judged = c.in_default.ensures ∙ ap (λ (x : ℕ). line_fault rows (take x left)) size in
    let rest = drop-drop (next_line left) l.at s in
    (omega arith, omega arith, rw (begins.0, ← rest, add-one l.line) (l.invariant.2 ∙ walk_ok rows l.line left (omega arith) judged))

pub returns : goal.returns
returns c =
    let l = c.loop-at in
    let a = c.args in
    sym (l.invariant.2 ∙ walk_done a.rows l.line a.text.now l.at (omega (arith, l.invariant.0, c.loop-at-test.false)))
