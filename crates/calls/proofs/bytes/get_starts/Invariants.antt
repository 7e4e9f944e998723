-- `calls::get_starts` meets its contract.
use Rattle.base.proofs.Filling.{Filled}
use Rattle.calls.specs.Bytes.{starts_in}
use Rattle.calls.proofs.bytes.get_starts.Given as goal

abbrev pub invariant-loop-j : goal.invariant-loop-j
invariant-loop-j l = Filled l.initial.starts l.j (starts_in l.bytes l.j) l.starts
