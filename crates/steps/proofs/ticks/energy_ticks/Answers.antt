-- `steps::ticks::energy_ticks` meets its contract.
use mathlib.Core.Path.{◌∙◌}
use native.Mathlib.Omega.{arith}
use Rattle.steps.proofs.Passing.{energy_work, energy_sleep, energy_down, energy_up}
use Rattle.steps.proofs.Bounds.{product}
use Rattle.steps.proofs.ticks.energy_ticks.Goals as goal

pub overflow_mul-result : goal.overflow_mul-result
overflow_mul-result c = record { fits = product (omega arith) (omega arith) }

pub overflow_mul-result-in-Asleep : goal.overflow_mul-result-in-Asleep
overflow_mul-result-in-Asleep c =
    record { fits = product (omega (arith, c.requires.falls 0 c.requires.some_level, c.well_formed.0)) (omega arith) }

pub returns-in-Working : goal.returns-in-Working
returns-in-Working c = rw c.in-Working.is (energy_work c.args.d c.args.n)

pub returns-in-Asleep : goal.returns-in-Asleep
returns-in-Asleep c = rw c.in-Asleep.is (energy_sleep c.args.d c.args.n)

pub returns-in-Down : goal.returns-in-Down
returns-in-Down c = rw c.in-Down.is (c.moving_energy.ensures ∙ energy_down c.args.d c.args.n c.in-Down.left)

pub returns-in-Up : goal.returns-in-Up
returns-in-Up c = rw c.in-Up.is (c.moving_energy-in-Up.ensures ∙ energy_up c.args.d c.args.n c.in-Up.left)
