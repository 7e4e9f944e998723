-- `calls::read_roomed` meets its contract.
use mathlib.Core.Path.{sym}
use native.Mathlib.Omega.{arith}
use Rattle.std.proofs.lemmas.Result.{err_from_is_err_and}
use Rattle.request.proofs.Accepted.{accepted_valid}
use Rattle.calls.specs.inside.Roomed.{Unroomed}
use Rattle.calls.proofs.paired.read_roomed.Goals as goal

pub returns-in_err-recorder : goal.returns-in_err-recorder
returns-in_err-recorder c =
    let p = err_from_is_err_and c.from_residual.result c.from_residual.ensures.1 in
    rw (p.1, p.2) (Unroomed.refused (sym c.in_err-recorder.ensures))

pub overflow_mul-recorder : goal.overflow_mul-recorder
overflow_mul-recorder c = omega (arith, (accepted_valid _ _ (sym c.in_ok-recorder.ensures)).few_jobs)

pub returns-then-room-recorder : goal.returns-then-room-recorder
returns-then-room-recorder c = rw c.from.ensures (Unroomed.short (sym c.in_ok-recorder.ensures) c.if-room-recorder.true)

pub returns : goal.returns
returns c = (sym c.in_ok-recorder.ensures, c.if-room-recorder.false)
