-- `request::read_by` meets its contract.
use native.Mathlib.Omega.{arith}
use mathlib.Core.Path.{ap, ◌∙◌}
use mathlib.Core.List.{List}
use Prim.Native.Nat.{◌≤◌}
use lib.ListN.{length}
use Rattle.base.proofs.Pieces.{part_rest}
use Rattle.request.specs.Format.{read_as}
use Rattle.request.proofs.read_by.Goals as goal

pub slice_bounds-read_as-count : goal.slice_bounds-read_as-count
slice_bounds-read_as-count c =
    let fits : c.marker_size-from.result ≤ length c.args.s.now = rw c.marker_size-from.ensures c.requires in
    fits

pub slice_bounds-read_as-start : goal.slice_bounds-read_as-start
slice_bounds-read_as-start c =
    let fits : c.marker_size-from.result ≤ length c.args.s.now = rw c.marker_size-from.ensures c.requires in
    omega (arith, fits)

pub slice_bounds-read_as-end : goal.slice_bounds-read_as-end
slice_bounds-read_as-end c =
    let fits : c.marker_size-from.result ≤ length c.args.s.now = rw c.marker_size-from.ensures c.requires in
    omega (arith, fits)

pub returns : goal.returns
returns c =
    let a = c.args in
    rw c.marker_size-from.ensures at (c.read_as.ensures ∙ ap (λ (l : List _). read_as a.kind l) (part_rest a.s.now c.marker_size-from.result))
