-- `sheet_export::plans::spare_of` meets its contract.
use mir.Facts.{to_z-of_z}
use Rattle.sheet_export.proofs.Spares.{spare_fits}
use Rattle.sheet_export.proofs.plans.spare_of.Goals as goal

pub overflow_cast-result : goal.overflow_cast-result
overflow_cast-result c = rw (to_z-of_z c.ranges.margin) (spare_fits c.args.margin c.requires)
