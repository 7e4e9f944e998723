-- `calls::floe_rows` meets its contract.
use Rattle.calls.specs.Calls as Calls
use Rattle.calls.proofs.floe_rows.Goals as goal

pub returns : goal.returns
returns c = let told = c.tell.ensures in rw (told.0, told.1, c.told.ensures) (Calls.called c.rows_call-rows.ensures)
