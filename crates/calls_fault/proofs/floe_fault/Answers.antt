-- `calls_fault::floe_fault` meets its contract.
use mathlib.Core.List.{List}
use Prim.Native.Nat.{ℕ, ◌<◌}
use lib.ListN.{length}
use Rattle.calls.specs.inside.Cramped.{Cramped}
use Rattle.calls_fault.specs.FaultCall.{FaultCalled, cramped, short, told}
use Rattle.calls_fault.proofs.floe_fault.Goals as goal

-- A result buffer without room.
cramped_call : (file result : List ℕ) {n : ℕ} → length result < 18 → Cramped file n → FaultCalled file result n result
cramped_call file result h (Cramped.refused r) = cramped h r
cramped_call file result h (Cramped.read r) = short h r

pub returns-then-res-lt-PLACE : goal.returns-then-res-lt-PLACE
returns-then-res-lt-PLACE c = cramped_call _ _ c.if-res-lt-PLACE.true c.cramped.ensures

pub returns : goal.returns
returns c =
    let it = c.tell_fault.ensures in
    rw (it.0, it.1) (told c.if-res-lt-PLACE.false c.fault_of.ensures)
