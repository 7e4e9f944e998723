-- `calls_least::least_bytes` meets its contract.
use mathlib.Core.Path.{refl, sym}
use native.Mathlib.Omega.{arith}
use lib.Seq.{length-take-le}
use Rattle.schedule.specs.Quantities.{jobs}
use Rattle.std.proofs.lemmas.Result.{err_from_is_err_and}
use Rattle.request.proofs.Accepted.{accepted_valid}
use Rattle.planner.specs.Promises as P
use Rattle.calls.proofs.Crossing.{own, few_sixteen, starts_unroomed, starts_refused, starts_given}
use Rattle.cheapest.specs.Promises.{CountedLeastOf}
use Rattle.calls_least.proofs.Crossing.{counted_alike}
use Rattle.calls_least.proofs.least_bytes.Goals as goal

pub returns-in_err-recorder : goal.returns-in_err-recorder
returns-in_err-recorder c =
    let p = err_from_is_err_and c.from_residual.result c.from_residual.ensures.1 in
    rw (p.1, p.2) (record { planned = starts_unroomed (CountedLeastOf c.args.budget) (λ R own h. P.stops h) c.in_err-recorder.ensures; lent = λ unsought. refl })

pub least_of-requires : goal.least_of-requires
least_of-requires c = accepted_valid _ _ c.in_ok-recorder.ensures.0

pub returns-in_err-found : goal.returns-in_err-found
returns-in_err-found c =
    let p = err_from_is_err_and c.from_residual-in_err-found.result c.from_residual-in_err-found.ensures.1 in
    let r = c.in_ok-recorder.ensures in
    rw (p.1, p.2) (record { planned = P.OfFile.read r.0 (starts_refused _ _ _ (counted_alike _ _) r.1 own (few_sixteen _ _ r.0) c.in_err-found.field-0.0 c.in_err-found.ensures.counted); lent = c.in_err-found.ensures.lent })

pub slice_bounds-own-end : goal.slice_bounds-own-end
slice_bounds-own-end c = omega (arith, few_sixteen _ _ c.in_ok-recorder.ensures.0, c.least_of.auto)

pub slice_bounds-put_starts-end : goal.slice_bounds-put_starts-end
slice_bounds-put_starts-end c = sym (length-take-le _ _ (omega (arith, few_sixteen _ _ c.in_ok-recorder.ensures.0, c.least_of.auto)))

pub put_starts-requires : goal.put_starts-requires
put_starts-requires c =
    let r = c.in_ok-recorder.ensures in
    rw (length-take-le (jobs c.in_ok-recorder.recorder) c.least_of.new.starts (omega (arith, few_sixteen _ _ r.0, c.least_of.auto))) r.1

pub returns : goal.returns
returns c =
    let r = c.in_ok-recorder.ensures in
    rw (c.put_starts.ensures, length-take-le (jobs c.in_ok-recorder.recorder) c.least_of.new.starts (omega (arith, few_sixteen _ _ r.0, c.least_of.auto))) (record { planned = P.OfFile.read r.0 (starts_given _ _ _ (counted_alike _ _) r.1 own (few_sixteen _ _ r.0) refl c.in_ok-found.ensures.counted); lent = c.in_ok-found.ensures.lent })
