-- `cheapest::counted` meets its contract.
use mathlib.Core.Path.{refl}
use mathlib.Core.Logic.{inl}
use Rattle.std.proofs.lemmas.Result.{err_from_is_err_and}
use Rattle.base.proofs.Numbered.{not_0}
use Rattle.cheapest.proofs.Ending.{counts_over, counts_found}
use Rattle.cheapest.proofs.counted.Goals as goal

pub returns-in_err-found : goal.returns-in_err-found
returns-in_err-found c =
    let e = err_from_is_err_and c.from_residual.result c.from_residual.ensures.1 in
    let q = c.requires in
    let p = counts_over _ q.0 _ _ q.1.0 q.1.1.0 q.1.1.1 c.in_err-found.ensures.planned (not_0 _) in
    rw (e.1, e.2) (record { counted = p.0; sought = p.1 })

pub returns : goal.returns
returns c =
    let q = c.requires in
    record {
      counted = counts_found _ q.0 _ _ q.1.0 q.1.1.0 q.1.1.1 c.in_ok-found.ensures.planned refl;
      sought = inl refl;
    }
