-- `sheet_export::printing::put_part_line` meets its contract.
use mathlib.Core.Path.{sym}
use native.Mathlib.Omega.{arith}
use lib.ListN.{take}
use lib.Seq.{length-take-le}
use Rattle.text.proofs.Puts.{put_more, four_few}
use Rattle.sheet_export.proofs.Printed.{quoted_long, front_eight, part_text_lem}
use Rattle.sheet_export.proofs.printing.put_part_line.Goals as goal

pub slice_bounds-put_quoted-end : goal.slice_bounds-put_quoted-end
slice_bounds-put_quoted-end c =
    let s = c.args.part.now in
    let eight = length-take-le 8 s (omega (arith, c.requires.1)) in
    let front-few = front_eight s c.requires.1 in
    sym eight

pub put_quoted-next-requires : goal.put_quoted-next-requires
put_quoted-next-requires c =
    let s = c.args.part.now in
    let eight = length-take-le 8 s (omega (arith, c.requires.1)) in
    let front-few = front_eight s c.requires.1 in
    omega (arith, c.requires.0)

pub put_line-requires : goal.put_line-requires
put_line-requires c =
    let s = c.args.part.now in
    let eight = length-take-le 8 s (omega (arith, c.requires.1)) in
    let front-few = front_eight s c.requires.1 in
    let d = c.first_at-d.result in
    omega (arith, c.requires.0, quoted_long (take 8 s), c.put_quoted-next.ensures.next, four_few c.from.result d.pw d.ps d.pwake)

pub returns : goal.returns
returns c =
    let s = c.args.part.now in
    let eight = length-take-le 8 s (omega (arith, c.requires.1)) in
    let front-few = front_eight s c.requires.1 in
    let d = c.first_at-d.result in
    let first = c.put_quoted-next.ensures in
    let second = rw (c.from.ensures, c.first_at-d.ensures) at c.put_line.ensures in
    rw (← part_text_lem s) (put_more first second (omega (arith, c.requires.0, quoted_long (take 8 s), first.next, c.put_line.ensures.next, four_few c.from.result d.pw d.ps d.pwake)))
