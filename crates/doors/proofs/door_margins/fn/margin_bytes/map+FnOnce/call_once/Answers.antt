-- The closure of `doors::door_margins::margin_bytes`, called once, meets its contract.
use mathlib.Core.Path.{ap, ◌∙◌}
use mir.Facts.{to_z-of_z}
use Rattle.doors.specs.Promises.{complement}
use Rattle.doors.proofs.door_margins.fn.margin_bytes.map+FnOnce.call_once.Goals as goal

pub returns : goal.returns
returns c = (tt, c.map.ensures ∙ ap complement (to_z-of_z c.ranges.arg2))
