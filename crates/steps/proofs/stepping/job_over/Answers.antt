-- `steps::stepping::job_over` meets its contract.
use native.Mathlib.Omega.{arith}
use Rattle.steps.proofs.Bounds.{Most, sound_most, alone_most}
use Rattle.steps.proofs.stepping.job_over.Goals as goal

pub pass-waited-requires : goal.pass-waited-requires
pass-waited-requires c = (c.requires.0, omega (arith, c.requires.1))

pub pass-ran-requires : goal.pass-ran-requires
pass-ran-requires c =
    let a = c.args in
    let small : Most a.d 65535 = sound_most a.d c.requires.0 (omega (arith, c.well_formed.0)) (omega (arith, c.well_formed.0)) (omega (arith, c.well_formed.0)) in
    rw (c.on_start-begun.ensures, c.pass-waited.ensures)
    (c.requires.0, omega (arith, c.requires.1, alone_most a.d small a.gap a.x.state))

pub returns : goal.returns
returns c = rw (c.on_end.ensures, c.pass-ran.ensures, c.on_start-begun.ensures, c.pass-waited.ensures)
