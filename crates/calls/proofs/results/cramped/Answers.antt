-- `calls::cramped` meets its contract.
use mathlib.Core.Path.{sym}
use Rattle.calls.specs.inside.Cramped.{Cramped}
use Rattle.calls.proofs.results.cramped.Goals as goal

pub returns-in-Err : goal.returns-in-Err
returns-in-Err c = rw c.number.ensures (Cramped.refused (sym c.in-Err.ensures))

pub returns-in-Ok : goal.returns-in-Ok
returns-in-Ok c = rw c.number-in-Ok.ensures (Cramped.read (sym c.in-Ok.ensures))
