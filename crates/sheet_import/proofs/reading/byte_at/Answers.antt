-- `sheet_import::reading::byte_at` meets its contract.
use Rattle.std.proofs.Common.{arith}
use Rattle.text.specs.inside.Cursors.{field_at, raw_of}
use Rattle.sheet_import.proofs.RowLines.{number_is}
use Rattle.sheet_import.proofs.reading.byte_at.Goals as goal

pub number_at-requires : goal.number_at-requires
number_at-requires c = (c.requires.0, (number_is 255 (field_at (raw_of c.args.line.now) c.args.i) (omega arith) c.requires.1).2)

pub overflow_cast-result : goal.overflow_cast-result
overflow_cast-result c =
    let n = number_is 255 (field_at (raw_of c.args.line.now) c.args.i) (omega arith) c.requires.1 in
    omega (arith, c.number_at.ensures, n.1)
