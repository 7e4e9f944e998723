-- `visit::stages::staged_visit` meets its contract.
use mathlib.Core.Path.{refl, sym, ◌∙◌}
use mathlib.Core.Logic.{⊎_elim}
use native.Mathlib.Omega.{arith}
use Rattle.visit.proofs.Finding.{ran_as, ran_larger, kept_beyond}
use Rattle.visit.proofs.stages.staged_visit.Goals as goal

pub returns-then-is_ok : goal.returns-then-is_ok
returns-then-is_ok c = record {
  ran = ⊎_elim (λ ok. ran_larger _ _ _ _ _ (omega arith) _ c.few_visit-few.ensures (sym c.is_ok.ensures.value ∙ ok))
      (λ w. ran_as _ _ _ _ _ (omega (arith, w.1)) _ c.few_visit-few.ensures) c.then-is_ok.either;
  within = λ few. refl;
}

pub returns-then-own : goal.returns-then-own
returns-then-own c = record {
  ran = c.own_visit.ensures;
  within = λ few. refl;
}

pub returns : goal.returns
returns c = record {
  ran = c.lent_visit.ensures;
  within = kept_beyond _ _ _ _ _ (omega (arith, c.if-budget-le-FEW.false)) (omega (arith, c.if-budget-le-FEW.false)) _ c.few_visit-few.ensures (sym c.is_ok.ensures.value ∙ c.if-is_ok.false) _ _;
}
