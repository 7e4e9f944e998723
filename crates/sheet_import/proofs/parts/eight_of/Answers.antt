-- `sheet_import::parts::eight_of` meets its contract.
use Rattle.sheet_import.proofs.PartFields.{padded_is}
use Rattle.sheet_import.proofs.parts.eight_of.Goals as goal

pub returns : goal.returns
returns c = rw c.copy_from_slice.ensures.after (padded_is c.args.field.now)
