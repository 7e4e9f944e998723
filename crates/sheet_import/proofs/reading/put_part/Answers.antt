-- `sheet_import::reading::put_part` meets its contract.
use mathlib.Core.Path.{ap, ◌∙◌}
use native.Mathlib.Omega.{arith}
use lib.ListN.{length}
use Rattle.base.specs.Lists.{padded}
use Rattle.catalogue.specs.Parts.{space}
use Rattle.catalogue.proofs.PartNumbers.{formed}
use Rattle.text.specs.inside.Cursors.{field_at, raw_of}
use Rattle.text.proofs.Puts.{put_more}
use Rattle.sheet_import.proofs.PartFields.{formed_short}
use Rattle.sheet_import.proofs.reading.put_part.Goals as goal

pub field-requires : goal.field-requires
field-requires c = c.requires.1.0.reads

pub eight_of-eight-requires : goal.eight_of-eight-requires
eight_of-eight-requires c =
    rw c.field.ensures (formed_short (field_at (raw_of c.args.line.now) 0) c.requires.1.1)

pub put_bytes-next-requires : goal.put_bytes-next-requires
put_bytes-next-requires c =
    let f = field_at (raw_of c.args.line.now) 0 in
    let eight = c.eight_of-eight.ensures ∙ ap (padded 8 space) c.field.ensures in
    let long = ap length eight ∙ (formed (padded 8 space f) c.requires.1.1).0 in
    omega (arith, c.requires.0)

pub byte_at-requires : goal.byte_at-requires
byte_at-requires c = (c.requires.1.0.reads, c.requires.1.0.numbers 0 (omega arith))

pub number_at-requires : goal.number_at-requires
number_at-requires c = (c.requires.1.0.reads, c.requires.1.0.numbers 1 (omega arith))

pub number_at-requires-2 : goal.number_at-requires-2
number_at-requires-2 c = (c.requires.1.0.reads, c.requires.1.0.numbers 2 (omega arith))

pub number_at-requires-3 : goal.number_at-requires-3
number_at-requires-3 c = (c.requires.1.0.reads, c.requires.1.0.numbers 3 (omega arith))

pub put_device-requires : goal.put_device-requires
put_device-requires c =
    let f = field_at (raw_of c.args.line.now) 0 in
    let eight = c.eight_of-eight.ensures ∙ ap (padded 8 space) c.field.ensures in
    let long = ap length eight ∙ (formed (padded 8 space f) c.requires.1.1).0 in
    omega (arith, c.requires.0, c.put_bytes-next.ensures.next)

pub returns : goal.returns
returns c =
    let f = field_at (raw_of c.args.line.now) 0 in
    let eight = c.eight_of-eight.ensures ∙ ap (padded 8 space) c.field.ensures in
    let long = ap length eight ∙ (formed (padded 8 space f) c.requires.1.1).0 in
    let first = c.put_bytes-next.ensures in
    let second = c.put_device.ensures in
    rw (← eight, ← c.byte_at.ensures, ← c.number_at.ensures, ← c.number_at-2.ensures, ← c.number_at-3.ensures)
    (put_more first second (omega (arith, c.requires.0, first.next, second.next)))
