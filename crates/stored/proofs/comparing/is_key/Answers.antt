-- `stored::comparing::is_key` meets its contract.
use mathlib.Core.Path.{sym, ◌∙◌}
use borrow.Author.Tests.{eqb-true}
use Rattle.base.proofs.Cases.{both}
use Rattle.stored.proofs.comparing.is_key.Goals as goal

pub returns : goal.returns
returns c = λ e.
    let head = both _ _ (sym c.eq.ensures ∙ e) in
    let idle = both _ _ head.1 in
    let idle4 = both _ _ idle.1 in
    let first = both _ _ idle4.1 in
    record {
      head_is = eqb-true _ _ head.0;
      idle_is = eqb-true _ _ idle.0;
      idle4_is = eqb-true _ _ idle4.0;
      first_is = eqb-true _ _ first.0;
      first4_is = eqb-true _ _ first.1;
    }
