use mathlib.Core.Path.{◌≡◌, sym, ap, ◌∙◌}
use mathlib.Core.List.{[]}
use Prim.Native.Nat.{ℕ, ◌*◌, ◌<◌}
use native.Mathlib.Omega.{arith}
use native.Mathlib.Nat.{zero-mul, mul-le-mul_right}
use Rattle.text.specs.Grammar.{lines_of}
use Rattle.text.proofs.Puts.{put_more, put_none, put_length}
use Rattle.sheet.proofs.Laid.{rows_more, rows_all}
use Rattle.sheet_import.specs.inside.Reading.{line_at}
use Rattle.sheet_import.specs.inside.RowBytes.{row_bytes, row_size}
use Rattle.sheet_import.proofs.RowLines.{row_size_lem, one_more, room_left}
use Rattle.sheet_import.proofs.reading.put_rows.Goals as goal

pub loop-k-init : goal.loop-k-init
loop-k-init c = (sym (zero-mul (row_size c.args.rows)), put_none _ _)

pub put_row-at-requires : goal.put_row-at-requires
put_row-at-requires c =
    let l = c.loop-k in
    let inside : l.k < c.args.lines = omega arith in
    let room = room_left (row_size c.args.rows) inside c.requires.1 in
    let kept = put_length l.invariant.1 (omega (arith, room, l.invariant.0)) in
    rw c.line.ensures (omega (arith, room, l.invariant.0), c.requires.2 l.k (omega (arith, c.requires.0)))

pub loop-k-preserved : goal.loop-k-preserved
loop-k-preserved c =
    let l = c.loop-k in
    let rows = c.args.rows in
    let s = c.args.text.now in
    let inside : l.k < c.args.lines = omega arith in
    let room = room_left (row_size rows) inside c.requires.1 in
    let long = row_size_lem rows (line_at s l.k) (c.requires.2 l.k (omega (arith, c.requires.0))) in
    let put = rw c.line.ensures at c.put_row-at.ensures in
    let more = put_more {u = row_bytes rows (line_at s l.k)} l.invariant.1 put (omega (arith, room, long, l.invariant.0, put.next)) in
    (omega (arith, long, l.invariant.0, put.next, one_more l.k (row_size rows)), rw (rows_more (row_bytes rows) (lines_of s) [] l.k (omega (arith, c.requires.0))) more)

pub shape_of-out : goal.shape_of-out
shape_of-out c =
    let l = c.loop-k in
    put_length l.invariant.1 (omega (arith, l.invariant.0, c.requires.1, mul-le-mul_right (row_size c.args.rows) (l.auto.k-end)))

pub returns : goal.returns
returns c =
    let l = c.loop-k in
    let rows = c.args.rows in
    let s = c.args.text.now in
    let done : l.k ≡ c.args.lines = omega arith in
    let all : l.at ≡ c.args.lines * row_size rows = l.invariant.0 ∙ ap (λ (k : ℕ). k * row_size rows) done in
    rw (← all, ← rows_all (row_bytes rows) (lines_of s) [] l.k (omega (arith, c.requires.0))) l.invariant.1
