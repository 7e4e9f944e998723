use mathlib.Core.Path.{◌≡◌, ◌∙◌}
use mathlib.Core.List.{[]}
use Prim.Native.Nat.{◌*◌}
use native.Mathlib.Omega.{arith}
use lib.ListN.{take, drop, get_or, length-take, length-drop}
use Rattle.base.specs.Bytes.{pieces}
use Rattle.base.proofs.Pieces.{slice_is}
use Rattle.text.proofs.Puts.{put_more, put_none, put_length}
use Rattle.sheet.proofs.Laid.{rows_more, rows_all}
use Rattle.sheet_export.specs.inside.Printing.{record_text}
use Rattle.sheet_export.proofs.Printed.{records_text, record_text_few}
use Rattle.sheet_export.proofs.Records.{seven_count, seven_at}
use Rattle.sheet_export.proofs.printing.put_job_lines.Goals as goal

pub loop-k-init : goal.loop-k-init
loop-k-init c = (omega arith, put_none _ _)

pub put_job_line-at-requires : goal.put_job_line-at-requires
put_job_line-at-requires c =
    let s = c.args.records.now in
    let l = c.loop-k in
    let count = seven_count s c.requires.1 in
    let kept = put_length l.invariant.1 (omega (arith, c.requires.2, c.requires.0)) in
    (omega (arith, c.requires.2, c.requires.0), rw (slice_is s 7 (7 * l.k)) (length-take 7 (drop (7 * l.k) s) ∙ omega (arith, length-drop (7 * l.k) s)))

pub loop-k-preserved : goal.loop-k-preserved
loop-k-preserved c =
    let s = c.args.records.now in
    let l = c.loop-k in
    let count = seven_count s c.requires.1 in
    let piece = take 7 (drop (7 * l.k) s) in
    let put = rw (slice_is s 7 (7 * l.k)) at c.put_job_line-at.ensures in
    let few = record_text_few piece in
    let here : get_or (pieces 7 s) l.k [] ≡ piece = seven_at s c.requires.1 l.k (omega arith) in
    let more = put_more l.invariant.1 put (omega (arith, c.requires.2, c.requires.0, put.next)) in
    (omega (arith, put.next), rw (rows_more record_text (pieces 7 s) [] l.k (omega arith), here) more)

pub returns : goal.returns
returns c =
    let s = c.args.records.now in
    let l = c.loop-k in
    let count = seven_count s c.requires.1 in
    (omega (arith, c.requires.0), rw (records_text (pieces 7 s), ← rows_all record_text (pieces 7 s) [] l.k (omega arith)) l.invariant.1)
