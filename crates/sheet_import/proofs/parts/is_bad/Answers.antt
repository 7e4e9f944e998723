-- `sheet_import::parts::is_bad` meets its contract.
use Rattle.std.proofs.Common.{length, sym, ap, ◌∙◌, arith}
use Rattle.std.specs.Prelude.{not}
use borrow.Author.Tests.{lt-ltb}
use Rattle.text.specs.inside.Cursors.{field_at, raw_of}
use Rattle.sheet_import.proofs.PartFields.{long_bad}
use Rattle.sheet_import.proofs.parts.is_bad.Goals as goal

pub returns-then-number-gt8 : goal.returns-then-number-gt8
returns-then-number-gt8 c = lt-ltb 8 _ c.if-number-gt8.true ∙ sym (ap not (long_bad (field_at (raw_of c.args.line.now) 0) (omega (arith, ap length c.field-number.ensures))))
