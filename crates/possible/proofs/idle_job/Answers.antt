-- `possible::idle_job` meets its contract.
use mathlib.Core.Path.{refl}
use Rattle.possible.proofs.idle_job.Goals as goal

pub returns : goal.returns
returns c = refl
