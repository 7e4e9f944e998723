-- `sheet_import::reading::put_record` meets its contract.
use native.Mathlib.Omega.{arith}
use Rattle.text.proofs.Puts.{put_more}
use Rattle.sheet_import.proofs.reading.put_record.Goals as goal

pub number_at-requires : goal.number_at-requires
number_at-requires c = (c.requires.1.reads, c.requires.1.numbers 0 (omega arith))

pub put_pair-due-requires : goal.put_pair-due-requires
put_pair-due-requires c = omega (arith, c.requires.0)

pub number_at-requires-2 : goal.number_at-requires-2
number_at-requires-2 c = (c.requires.1.reads, c.requires.1.numbers 1 (omega arith))

pub put_pair-run-requires : goal.put_pair-run-requires
put_pair-run-requires c = omega (arith, c.requires.0, c.put_pair-due.ensures.next)

pub number_at-requires-3 : goal.number_at-requires-3
number_at-requires-3 c = (c.requires.1.reads, c.requires.1.numbers 2 (omega arith))

pub put_pair-set-requires : goal.put_pair-set-requires
put_pair-set-requires c = omega (arith, c.requires.0, c.put_pair-due.ensures.next, c.put_pair-run.ensures.next)

pub byte_at-requires : goal.byte_at-requires
byte_at-requires c = (c.requires.1.reads, c.requires.1.numbers 3 (omega arith))

pub put_byte-requires : goal.put_byte-requires
put_byte-requires c = omega (arith, c.requires.0, c.put_pair-due.ensures.next, c.put_pair-run.ensures.next, c.put_pair-set.ensures.next)

pub returns : goal.returns
returns c =
    let a = c.put_pair-due.ensures in
    let d = c.put_pair-run.ensures in
    let r = c.put_pair-set.ensures in
    let s = c.put_byte.ensures in
    let two = put_more r s (omega (arith, c.requires.0, a.next, d.next, r.next, s.next)) in
    let three = put_more d two (omega (arith, c.requires.0, a.next, d.next, r.next, s.next)) in
    rw (← c.number_at.ensures, ← c.number_at-2.ensures, ← c.number_at-3.ensures, ← c.byte_at.ensures)
    (put_more a three (omega (arith, c.requires.0, a.next, d.next, r.next, s.next)))
