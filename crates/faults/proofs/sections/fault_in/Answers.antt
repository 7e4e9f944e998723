-- `faults::sections::fault_in` meets its contract.
use mathlib.Core.Path.{◌≡◌}
use mathlib.Core.List.{List}
use Prim.Native.Nat.{ℕ}
use lib.ListN.{length}
use Rattle.tables.specs.declared.Kind.{Kind}
use Rattle.tables.specs.Layout.{marker}
use Rattle.tables.proofs.Joining.{length_marker}
use Rattle.faults.specs.Places.{Judged, FaultAs}
use Rattle.faults.specs.inside.Walk.{walk}
use Rattle.faults.proofs.Promised.{walk_promised}
use Rattle.faults.proofs.sections.fault_in.Goals as goal

walked : (k : Kind) (s : List ℕ) (mark : ℕ) (f : Judged) → mark ≡ length (marker k) → f ≡ walk mark k s → FaultAs k s f
walked k s mark f e h = rw (h, e) (walk_promised k s)

pub walk_in-requires : goal.walk_in-requires
walk_in-requires c = rw c.requires (length_marker c.args.kind)

pub returns : goal.returns
returns c = walked _ _ _ _ c.requires c.walk_in.ensures
