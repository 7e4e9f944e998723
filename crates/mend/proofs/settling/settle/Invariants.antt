-- `mend::settling::settle` meets its contract.
use Rattle.mend.proofs.Standing.{Stands}
use Rattle.mend.proofs.settling.settle.Given as goal

abbrev pub invariant-loop-done : goal.invariant-loop-done
invariant-loop-done l = Stands l.fn.r l.given l.starts l.end l.done
