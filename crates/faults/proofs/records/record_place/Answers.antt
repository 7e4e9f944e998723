-- `faults::records::record_place` meets its contract.
use mathlib.Core.Path.{◌≡◌}
use mathlib.Core.List.{List}
use Prim.Native.Nat.{ℕ, ◌+◌, ◌≤◌}
use native.Mathlib.Omega.{arith}
use borrow.Author.Tests.{ne_eqb}
use Rattle.base.specs.Reasons.{number_of}
use Rattle.base.proofs.Numbered.{some_number}
use Rattle.request.specs.declared.Section.{Section}
use Rattle.request.specs.Format.{record_fault}
use Rattle.faults.specs.declared.PlaceFault.{PlaceFault}
use Rattle.faults.specs.Places.{place_at, place_of, called_for, record_place, no_fault, at_fault}
use Rattle.faults.specs.inside.Walk.{or_next}
use Rattle.faults.proofs.Walking.{called_few}
use Rattle.faults.proofs.records.record_place.Goals as goal

module _ (mark : ℕ) (s : List ℕ) (k : Section) (i at : ℕ) where
  faultless : 0 ≡ record_fault s k at → no_fault ≡ or_next (record_place mark s k i at) no_fault
  unfolding record_place place_at
  faultless e = rw (← e)

  found :
      (f : PlaceFault) → number_of f.reason ≡ record_fault s k at
      → at_fault f ≡ place_at mark (place_of k i) at (at + called_for s k at (number_of f.reason)) (number_of f.reason) → at_fault f ≡ or_next (record_place mark s k i at) no_fault
  unfolding record_place place_at
  found f n h = rw (← n, ne_eqb (number_of f.reason) 0 (λ z. omega (arith, some_number f.reason))) h

pub returns-in_default : goal.returns-in_default
returns-in_default c = faultless _ _ _ _ _ c.in_default.ensures

pub overflow_add-result-2 : goal.overflow_add-result-2
overflow_add-result-2 c =
    let few : c.called_for-size.result ≤ 14 = rw c.called_for-size.ensures (called_few _ _ _ _) in
    omega (arith, few)

pub overflow_add-result-3 : goal.overflow_add-result-3
overflow_add-result-3 c =
    let few : c.called_for-size.result ≤ 14 = rw c.called_for-size.ensures (called_few _ _ _ _) in
    omega (arith, few)

pub returns : goal.returns
unfolding place_at
returns c = found _ _ _ _ _ _ c.in-Err.ensures (rw (c.place_of.ensures, c.called_for-size.ensures))
