-- `request::euclid::gcd` meets its contract.
use mathlib.Core.Path.{sym, ◌∙◌}
use Rattle.request.proofs.Multiples.{gcd_zero, gcd_step}
use Rattle.request.proofs.euclid.+gcd.Goals as goal

pub returns-then-b-eq0 : goal.returns-then-b-eq0
returns-then-b-eq0 t c = gcd_zero _ _ c.if-b-eq0.true

pub returns-else-b-eq0 : goal.returns-else-b-eq0
returns-else-b-eq0 t c = c.gcd.ensures ∙ sym (gcd_step _ _ c.if-b-eq0.false)
