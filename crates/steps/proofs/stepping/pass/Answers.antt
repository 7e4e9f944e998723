-- `steps::stepping::pass` meets its contract.
use native.Mathlib.Omega.{arith}
use Rattle.steps.proofs.Bounds.{sound_most, alone_most}
use Rattle.steps.proofs.stepping.pass.Goals as goal

pub pass_fitting-requires : goal.pass_fitting-requires
pass_fitting-requires c =
    let a = c.args in
    (c.requires.0, omega (arith, c.requires.1, alone_most a.d (sound_most a.d c.requires.0 (omega arith) (omega arith) (omega arith)) a.n a.x.state))
