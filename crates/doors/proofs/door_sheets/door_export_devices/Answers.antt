-- `doors::door_sheets::door_export_devices` meets its contract.
use native.Mathlib.Omega.{arith}
use Rattle.doorway.specs.Doors.{shut, answered}
use Rattle.doors.proofs.door_sheets.door_export_devices.Goals as goal

pub returns-then-res-lt-RESULT : goal.returns-then-res-lt-RESULT
returns-then-res-lt-RESULT c = shut (λ r. omega (arith, r, c.if-res-lt-RESULT.true))

pub returns : goal.returns
returns c = let told = c.tell.ensures in rw (told.0, told.1, c.told.ensures) (answered c.if-res-lt-RESULT.false c.export_devices.ensures)
