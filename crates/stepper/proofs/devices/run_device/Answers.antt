-- `stepper::devices::run_device` meets its contract.
use mathlib.Core.Path.{◌∙◌}
use Rattle.stepper.proofs.Finding.{running_spaced}
use Rattle.steps.proofs.Agreeing.{stepped_by_lem}
use Rattle.stepper.proofs.devices.run_device.Goals as goal

pub run-requires : goal.run-requires
run-requires c =
    (c.requires.0.sound c.args.k c.requires.3, running_spaced c.args.r c.requires.0 c.args.starts.now c.requires.1 c.args.k c.order_of-o.result c.order_of-o.ensures)

pub returns : goal.returns
returns c =
    (c.run.ensures.0 ∙ stepped_by_lem c.args.r c.requires.0 c.args.starts.now c.requires.1 c.args.k c.order_of-o.result c.order_of-o.ensures, c.run.ensures.1)
