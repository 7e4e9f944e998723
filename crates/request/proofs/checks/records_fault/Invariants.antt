-- `request::checks::records_fault` meets its contract.
use mathlib.Core.Path.{◌≡◌}
use Prim.Native.Nat.{◌≤◌, ◌-◌}
use lib.ListN.{length}
use Rattle.request.specs.Format.{records_fault}
use Rattle.request.proofs.checks.records_fault.Given as goal

abbrev pub invariant-loop : goal.invariant-loop
invariant-loop l = (l.at ≤ length l.s) × (records_fault l.s l.k l.count l.from ≡ records_fault l.s l.k (l.count - l.counter) l.at)
