-- `faults::fault_of_tables` meets its contract: what is laid out is the file of the tables, but for counts that are refused.
use mathlib.Core.Path.{◌≡◌, sym, subst, ◌∙◌}
use mathlib.Core.List.{List}
use Prim.Native.Nat.{ℕ, ◌≤◌}
use native.Mathlib.Omega.{arith}
use lib.ListN.{length, take, drop, length-append}
use Rattle.tables.specs.declared.Tables.{Tables}
use Rattle.tables.specs.Layout.{marker, layout_of, bytes_of}
use Rattle.tables.specs.inside.Held.{limited, held}
use Rattle.tables.proofs.Appending.{held_front}
use Rattle.tables.proofs.Back.{unmarked}
use Rattle.tables.proofs.Joining.{limited_fits}
use Rattle.faults.specs.Places.{Judged, FaultAs, TablesFault}
use Rattle.faults.specs.inside.Walk.{walk}
use Rattle.faults.proofs.Promised.{walk_promised}
use Rattle.faults.proofs.Limiting.{walk_limited}
use Rattle.faults.proofs.Only.{only_fault_as}
use Rattle.faults.proofs.fault_of_tables.Goals as goal

-- The mark is that of the tables' kind, and what follows it is the layout.
limited-mark : (T : Tables) → (length (marker T.kind) ≤ length (bytes_of (limited T))) × (drop (length (marker T.kind)) (bytes_of (limited T)) ≡ layout_of (limited T))
unfolding bytes_of limited
limited-mark T = (omega (arith, length-append (marker T.kind) (layout_of (limited T))), unmarked T.kind (layout_of (limited T)))

walk-unlimited : (T : Tables) (mark : ℕ) → walk mark T.kind (layout_of (limited T)) ≡ walk mark T.kind (layout_of T)
unfolding limited
walk-unlimited T mark = walk_limited mark T

uncut : (T : Tables) (s : List ℕ) (f : Judged) → s ≡ bytes_of (limited T) → FaultAs T.kind (drop (length (marker T.kind)) s) f → TablesFault T f
uncut T s f e p =
    let mark = length (marker T.kind) in
    let q : FaultAs T.kind (layout_of (limited T)) f = rw (e, (limited-mark T).1) at p in
    let same = only_fault_as T.kind (layout_of (limited T)) q (walk_promised T.kind (layout_of (limited T))) ∙ walk-unlimited T mark in
    subst (FaultAs T.kind (layout_of T)) (sym same) (walk_promised T.kind (layout_of T))

pub shared_ref_as_front-fault_by : goal.shared_ref_as_front-fault_by
unfolding held
shared_ref_as_front-fault_by c = rw c.file_of-file.ensures (limited_fits c.args.given)

pub fault_by-requires : goal.fault_by-requires
fault_by-requires c =
    let laid : take c.file_of-file.result.count c.file_of-file.result.bytes ≡ bytes_of (limited c.args.given) = rw c.file_of-file.ensures (held_front (bytes_of (limited c.args.given))) in
    rw laid (limited-mark c.args.given).0

pub returns : goal.returns
returns c =
    let laid : take c.file_of-file.result.count c.file_of-file.result.bytes ≡ bytes_of (limited c.args.given) = rw c.file_of-file.ensures (held_front (bytes_of (limited c.args.given))) in
    uncut _ _ _ laid c.fault_by.ensures
