-- `request::read` meets its contract.
use mathlib.Core.Path.{◌≡◌}
use Prim.Native.Nat.{ℕ}
use mathlib.Core.List.{List}
use lib.ListN.{length, drop}
use Rattle.tables.specs.declared.Kind.{Kind}
use Rattle.tables.specs.Layout.{marker, kind_of}
use Rattle.tables.proofs.Back.{mark_fits}
use Rattle.request.specs.Format.{Reading, read_as, read_of}
use Rattle.request.proofs.read.Goals as goal

by_its_own : (s : List ℕ) (k : Kind) (r : Reading) → k ≡ kind_of s → r ≡ read_as k (drop (length (marker k)) s) → r ≡ read_of s
unfolding read_of
by_its_own s k r e h = rw e at h

pub read_by-requires : goal.read_by-requires
read_by-requires c = rw c.kind_of.ensures (mark_fits _)

pub returns : goal.returns
returns c = by_its_own _ _ _ c.kind_of.ensures c.read_by.ensures
