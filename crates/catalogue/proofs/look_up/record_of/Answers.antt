-- `catalogue::look_up::record_of` meets its contract.
use mathlib.Core.Path.{sym, ◌∙◌}
use Rattle.catalogue.proofs.Pieces.{found_record, found_some}
use Rattle.catalogue.proofs.look_up.record_of.Goals as goal

pub unwrap-k-requires : goal.unwrap-k-requires
unwrap-k-requires c = found_some c.args.catalogue.now c.args.number.now c.find.result c.requires.0 c.find.ensures c.requires.1

pub returns : goal.returns
returns c =
    let s = c.args.catalogue.now in
    let n = c.args.number.now in
    let found = rw c.unwrap-k.ensures at c.find.ensures in
    c.first_at.ensures ∙ sym (found_record s n c.unwrap-k.result c.requires.0 found.1 found.0)
