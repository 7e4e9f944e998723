-- `least::leads::wait_of` meets its contract.
use Prim.Native.Nat.{◌<◌}
use Rattle.std.specs.Prelude.{IfSome}
use Rattle.least.proofs.leads.wait_of.Given as goal

abbrev pub invariant-loop-k : goal.invariant-loop-k
invariant-loop-k l = IfSome l.until (λ t. l.time < t)
