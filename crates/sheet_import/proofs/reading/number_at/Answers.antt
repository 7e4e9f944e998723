-- `sheet_import::reading::number_at` meets its contract.
use Rattle.std.proofs.Common.{◌≡◌, sym, ap, ◌∙◌, arith}
use Rattle.std.specs.Prelude.{Some}
use Rattle.text.specs.Numerals.{value_of}
use Rattle.text.specs.inside.Cursors.{number_of, field_at, raw_of}
use Rattle.sheet_import.proofs.RowLines.{number_is}
use Rattle.sheet_import.proofs.reading.number_at.Goals as goal

pub unwrap-requires : goal.unwrap-requires
unwrap-requires c =
    let f = field_at (raw_of c.args.line.now) c.args.i in
    rw (c.number_of.ensures ∙ ap number_of c.field.ensures ∙ (number_is 65535 f (omega arith) c.requires.1).0)

pub returns : goal.returns
returns c =
    let f = field_at (raw_of c.args.line.now) c.args.i in
    let e : Some c.unwrap.result ≡ Some (value_of f) =
    sym c.unwrap.ensures ∙ c.number_of.ensures ∙ ap number_of c.field.ensures ∙ (number_is 65535 f (omega arith) c.requires.1).0 in
    cc
