use mathlib.Core.Path.{◌≡◌, ◌∙◌}
use Prim.Native.Nat.{◌*◌}
use native.Mathlib.Omega.{arith}
use lib.ListN.{length, take, drop, get_or, length-take, length-drop}
use Rattle.base.proofs.Pieces.{slice_is}
use Rattle.catalogue.specs.Parts.{parts_of, part_of}
use Rattle.catalogue.specs.Faults.{no_part}
use Rattle.catalogue.proofs.Meaning.{whole_catalogue}
use Rattle.catalogue.proofs.Pieces.{part_at}
use Rattle.text.proofs.Puts.{put_more, put_none, put_length}
use Rattle.sheet.specs.Sheets.{part_line}
use Rattle.sheet.proofs.Laid.{rows_more, rows_all}
use Rattle.sheet_export.specs.inside.Printing.{part_text}
use Rattle.sheet_export.proofs.Printed.{text_rows, part_text_few}
use Rattle.sheet_export.proofs.printing.put_part_lines.Goals as goal

pub loop-k-init : goal.loop-k-init
loop-k-init c = (omega arith, put_none _ _)

pub put_part_line-at-requires : goal.put_part_line-at-requires
put_part_line-at-requires c =
    let s = c.args.catalogue.now in
    let l = c.loop-k in
    let whole = whole_catalogue s c.requires.0 in
    let kept = put_length l.invariant.1 (omega (arith, c.requires.1)) in
    (omega (arith, c.requires.1), rw (slice_is s 15 (15 * l.k)) (length-take 15 (drop (15 * l.k) s) ∙ omega (arith, length-drop (15 * l.k) s)))

pub loop-k-preserved : goal.loop-k-preserved
loop-k-preserved c =
    let s = c.args.catalogue.now in
    let l = c.loop-k in
    let whole = whole_catalogue s c.requires.0 in
    let piece = take 15 (drop (15 * l.k) s) in
    let long : length piece ≡ 15 = length-take 15 (drop (15 * l.k) s) ∙ omega (arith, length-drop (15 * l.k) s) in
    let put = rw (slice_is s 15 (15 * l.k)) at c.put_part_line-at.ensures in
    let few = part_text_few piece long in
    let here : get_or (parts_of s) l.k no_part ≡ part_of piece = part_at s l.k (omega arith) in
    let more = put_more l.invariant.1 put (omega (arith, c.requires.1, put.next)) in
    (omega (arith, put.next), rw (rows_more part_text (parts_of s) no_part l.k (omega arith), here) more)

pub returns : goal.returns
returns c =
    let s = c.args.catalogue.now in
    let l = c.loop-k in
    let whole = whole_catalogue s c.requires.0 in
    (omega arith, rw (text_rows part_line (parts_of s), ← rows_all part_text (parts_of s) no_part l.k (omega arith)) l.invariant.1)
