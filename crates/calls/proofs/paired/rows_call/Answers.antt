-- `calls::rows_call` meets its contract.
use mathlib.Core.Path.{sym}
use native.Mathlib.Omega.{arith}
use Rattle.std.proofs.lemmas.Result.{err_from_is_err_and}
use Rattle.request.proofs.Accepted.{accepted_valid}
use Rattle.planner.specs.Promises as P
use Rattle.planner.proofs.Refusing.{unless_equal, unless_enough}
use Rattle.calls.proofs.paired.rows_call.Goals as goal

pub returns-in_err-recorder : goal.returns-in_err-recorder
returns-in_err-recorder c =
    let p = err_from_is_err_and c.from_residual.result c.from_residual.ensures.1 in
    rw (p.1, p.2) (P.OfFile.refused (sym c.in_err-recorder.ensures))

pub overflow_mul-recorder : goal.overflow_mul-recorder
overflow_mul-recorder c = omega (arith, (accepted_valid _ _ (sym c.in_ok-recorder.ensures)).few_jobs)

pub returns-then-bytes-recorder : goal.returns-then-bytes-recorder
returns-then-bytes-recorder c = rw c.from.ensures (P.OfFile.read (sym c.in_ok-recorder.ensures) (P.stops c.if-bytes-recorder.true))

pub returns-then-res-lt-RESULT : goal.returns-then-res-lt-RESULT
returns-then-res-lt-RESULT c =
    rw c.from-then-res-lt-RESULT.ensures (P.OfFile.read (sym c.in_ok-recorder.ensures) (unless_equal c.if-bytes-recorder.false (P.stops c.if-res-lt-RESULT.true)))

pub rows_bytes-requires : goal.rows_bytes-requires
rows_bytes-requires c = (accepted_valid _ _ (sym c.in_ok-recorder.ensures), c.if-bytes-recorder.false)

pub returns : goal.returns
returns c = P.OfFile.read (sym c.in_ok-recorder.ensures) (unless_equal c.if-bytes-recorder.false (unless_enough c.if-res-lt-RESULT.false c.rows_bytes.ensures))
