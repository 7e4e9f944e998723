-- No second outcome satisfies what `floe_fault` and the doors to places promise: for every input one number, and one state of the result buffer. Its number is the check's.
use mathlib.Core.Path.{◌≡◌, refl, sym, ap, ◌∙◌}
use mathlib.Core.List.{List, ◌++◌}
use Prim.Native.Nat.{ℕ}
use native.Mathlib.Omega.{arith}
use lib.ListN.{drop}
use Rattle.planner.specs.Promises.{Refused}
use Rattle.planner.proofs.Reading.{not_both}
use Rattle.faults.specs.Places.{Judged}
use Rattle.faults.proofs.Only.{only_fault, only_tables_fault, fault_refused}
use Rattle.table_bytes.specs.TableBytes.{tables_from}
use Rattle.catalogue.specs.Faults.{PartTold, part_fault, OrderFault}
use Rattle.catalogue.proofs.Only.{only_order_fault}
use Rattle.sheet_import.specs.LineFaults.{LineTold, line_fault_at, DevicesFault, JobsFault}
use Rattle.sheet_import.proofs.Only.{only_devices_fault, only_jobs_fault}
use Rattle.calls.specs.Bytes.{big}
use Rattle.calls_fault.specs.FaultCall.{eighteen, FaultCalled, cramped, short, told, FaultDoor, shut, answered, CountedDoor, closed, counted, OrderFaultDoor, DevicesFaultDoor, JobsFaultDoor}

pub only_fault_called : (file result : List ℕ) {n n' : ℕ} {r r' : List ℕ} → FaultCalled file result n r → FaultCalled file result n' r' → (n ≡ n') × (r ≡ r')
only_fault_called file result (cramped h e) (cramped h' e') = let both = sym e ∙ e' in (cc, refl)
only_fault_called file result (cramped h e) (short h' e') = absurd (not_both file e e')
only_fault_called file result (short h e) (cramped h' e') = absurd (not_both file e' e)
only_fault_called file result (short h e) (short h' e') = (refl, refl)
only_fault_called file result (told h p) (told h' p') =
    let e = only_fault file p p' in
    (ap (λ (f : Judged). f.number) e, ap (λ (f : Judged). eighteen f ++ drop 18 result) e)
only_fault_called file result (cramped h e) (told h' p') = absurd (omega arith)
only_fault_called file result (short h e) (told h' p') = absurd (omega arith)
only_fault_called file result (told h p) (cramped h' e') = absurd (omega arith)
only_fault_called file result (told h p) (short h' e') = absurd (omega arith)

pub only_fault_door : (tables result : List ℕ) {n n' : ℕ} {r r' : List ℕ} → FaultDoor tables result n r → FaultDoor tables result n' r' → (n ≡ n') × (r ≡ r')
only_fault_door tables result (shut c) (shut c') = (refl, refl)
only_fault_door tables result (shut c) (answered t h p) = absurd (c (t, h))
only_fault_door tables result (answered t h p) (shut c) = absurd (c (t, h))
only_fault_door tables result (answered t h p) (answered t' h' p') =
    let e = only_tables_fault (tables_from tables) p p' in
    (ap (λ (f : Judged). f.number) e, ap (λ (f : Judged). eighteen f ++ drop 18 result) e)

-- A file that is refused is refused by that number here too, whatever is lent.
pub called_refused : (file result : List ℕ) {n m : ℕ} {r : List ℕ} → FaultCalled file result n r → Refused file m → n ≡ m
called_refused file result (cramped h e) e' = let both = sym e ∙ e' in cc
called_refused file result (short h e) e' = absurd (not_both file e' e)
called_refused file result (told h p) e' = fault_refused file p e'

-- A place that is counted.
only_counted : (result : List ℕ) (Told : ℕ → ℕ → Type 0) → ((n k n' k' : ℕ) → Told n k → Told n' k' → (n ≡ n') × (k ≡ k'))
    → {n n' : ℕ} {r r' : List ℕ} → CountedDoor result Told n r → CountedDoor result Told n' r' → (n ≡ n') × (r ≡ r')
only_counted result Told one (closed h) (closed h') = (refl, refl)
only_counted result Told one (closed h) (counted h' p') = absurd (omega arith)
only_counted result Told one (counted h p) (closed h') = absurd (omega arith)
only_counted result Told one (counted {n = n} {k = k} h p) (counted {n = n'} {k = k'} h' p') =
    let e = one n k n' k' p p' in
    (e.0, ap (λ (i : ℕ). big 8 i ++ drop 8 result) e.1)

pub only_order_door : (catalogue wanted result : List ℕ) {n n' : ℕ} {r r' : List ℕ} → OrderFaultDoor catalogue wanted result n r → OrderFaultDoor catalogue wanted result n' r'
    → (n ≡ n') × (r ≡ r')
only_order_door catalogue wanted result =
    only_counted result (λ n k. OrderFault catalogue wanted (part_fault n k))
    (λ n k n' k' p p'. let e = only_order_fault catalogue wanted p p' in (ap (λ (f : PartTold). f.number) e, ap (λ (f : PartTold). f.part) e))

pub only_devices_door : (text result : List ℕ) {n n' : ℕ} {r r' : List ℕ} → DevicesFaultDoor text result n r → DevicesFaultDoor text result n' r' → (n ≡ n') × (r ≡ r')
only_devices_door text result =
    only_counted result (λ n k. DevicesFault text (line_fault_at n k))
    (λ n k n' k' p p'. let e = only_devices_fault text p p' in (ap (λ (f : LineTold). f.number) e, ap (λ (f : LineTold). f.line) e))

pub only_jobs_door : (text result : List ℕ) {n n' : ℕ} {r r' : List ℕ} → JobsFaultDoor text result n r → JobsFaultDoor text result n' r' → (n ≡ n') × (r ≡ r')
only_jobs_door text result =
    only_counted result (λ n k. JobsFault text (line_fault_at n k))
    (λ n k n' k' p p'. let e = only_jobs_fault text p p' in (ap (λ (f : LineTold). f.number) e, ap (λ (f : LineTold). f.line) e))
