-- `faults::fault_by` meets its contract.
use mathlib.Core.Path.{◌≡◌}
use mathlib.Core.List.{List}
use Prim.Native.Nat.{ℕ, ◌-◌}
use lib.ListN.{length, take, drop}
use Rattle.tables.specs.declared.Kind.{Kind}
use Rattle.tables.specs.Layout.{marker}
use Rattle.base.proofs.Pieces.{part_rest}
use Rattle.faults.specs.Places.{Judged, FaultAs}
use Rattle.faults.proofs.fault_by.Goals as goal

after-mark : (k : Kind) (s : List ℕ) (mark : ℕ) (f : Judged) → mark ≡ length (marker k) → FaultAs k (take (length s - mark) (drop mark s)) f → FaultAs k (drop (length (marker k)) s) f
after-mark k s mark f e h = rw (part_rest s mark, e) at h

pub returns : goal.returns
returns c =
    let a = c.args in
    after-mark a.kind a.s.now _ _ c.marker_size-mark.ensures c.fault_in.ensures
