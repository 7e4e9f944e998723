-- `faults::fault_of` meets its contract.
use mathlib.Core.Path.{◌≡◌}
use mathlib.Core.List.{List}
use Prim.Native.Nat.{ℕ}
use lib.ListN.{length, drop}
use Rattle.tables.specs.declared.Kind.{Kind}
use Rattle.tables.specs.Layout.{marker, kind_of}
use Rattle.tables.proofs.Back.{mark_fits}
use Rattle.faults.specs.Places.{Judged, FaultAs, FaultOf}
use Rattle.faults.proofs.fault_of.Goals as goal

by-its-own : (s : List ℕ) (k : Kind) (f : Judged) → k ≡ kind_of s → FaultAs k (drop (length (marker k)) s) f → FaultOf s f
by-its-own s k f e h = rw e at h

pub fault_by-requires : goal.fault_by-requires
fault_by-requires c = rw c.kind_of.ensures (mark_fits _)

pub returns : goal.returns
returns c = by-its-own _ _ _ c.kind_of.ensures c.fault_by.ensures
