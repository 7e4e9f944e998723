-- Turn k stores bit k.
use mathlib.Core.Path.{◌≡◌}
use mathlib.Core.Bool.{false}
use Rattle.base.specs.Lists.{up_to, padded}
use Rattle.request.specs.Format.{bit}
use Rattle.request.proofs.records.set_of.Given as goal

abbrev pub invariant-loop-k : goal.invariant-loop-k
invariant-loop-k l = l.used-items ≡ padded 8 false (up_to (bit l.set) l.k)
