-- `sheet_import::reading::put_device` meets its contract.
use native.Mathlib.Omega.{arith}
use Rattle.text.proofs.Puts.{put_more}
use Rattle.sheet_import.proofs.reading.put_device.Goals as goal

pub put_pair-sleep-requires : goal.put_pair-sleep-requires
put_pair-sleep-requires c = omega (arith, c.requires, c.put_byte-work.ensures.next)

pub put_pair-moving-requires : goal.put_pair-moving-requires
put_pair-moving-requires c = omega (arith, c.requires, c.put_byte-work.ensures.next, c.put_pair-sleep.ensures.next)

pub put_pair-requires : goal.put_pair-requires
put_pair-requires c = omega (arith, c.requires, c.put_byte-work.ensures.next, c.put_pair-sleep.ensures.next, c.put_pair-moving.ensures.next)

pub returns : goal.returns
returns c =
    let t = c.put_byte-work.ensures in
    let pw = c.put_pair-sleep.ensures in
    let ps = c.put_pair-moving.ensures in
    let p0 = c.put_pair.ensures in
    let two = put_more ps p0 (omega (arith, c.requires, t.next, pw.next, ps.next, p0.next)) in
    let three = put_more pw two (omega (arith, c.requires, t.next, pw.next, ps.next, p0.next)) in
    put_more t three (omega (arith, c.requires, t.next, pw.next, ps.next, p0.next))
