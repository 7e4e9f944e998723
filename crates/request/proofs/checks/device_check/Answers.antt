-- `request::checks::device_check` meets its contract: with one level there is no 26.
use mathlib.Core.Path.{◌≡◌}
use mathlib.Core.Bool.{false, cond}
use lib.Dec.{eqb}
use Rattle.base.specs.Refusals.{first_that}
use Rattle.base.proofs.Paths.{paths}
use Rattle.tables.specs.declared.DeviceRecord.{DeviceRecord}
use Rattle.request.specs.Format.{powers_table, device_table}
use Rattle.request.proofs.checks.device_check.Goals as goal
use Rattle.request.proofs.checks.device_check.Goals.{then-d-eq0-via-then-d-eq0, then-d-eq0-via-else-d-eq0+then-d-eq0-2}

-- With one level.
one : (d : DeviceRecord) → d.levels ≡ 1 → first_that (device_table false d) ≡ cond (eqb d.wake 0) 4 (cond (eqb d.shut 0) 4 (first_that (powers_table d)))
unfolding device_table
one d e = rw e

pub returns-then-d-eq0 : goal.returns-then-d-eq0
returns-then-d-eq0 c =
    rw (one c.args.d c.requires)
    (elim c.then-d-eq0.branch [
      | then-d-eq0-via-then-d-eq0 w ↦ search paths
      | then-d-eq0-via-else-d-eq0+then-d-eq0-2 w ↦ search paths
    ])

pub returns : goal.returns
returns c = rw (one c.args.d c.requires) (search paths)
