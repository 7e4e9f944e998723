-- `latest::offered` meets its contract.
use mathlib.Core.Path.{◌≡◌, sym, ◌∙◌}
use Prim.Native.Nat.{max}
use Rattle.latest.specs.inside.Latest.{offer}
use lib.ListN.{get_or}
use Rattle.flat.specs.inside.Flat.{recorder_of}
use Rattle.latest.proofs.Tabled.{offer_skip, offer_take}
use Rattle.latest.proofs.offered.Goals as goal

pub returns-then-not-has : goal.returns-then-not-has
returns-then-not-has c = offer_skip (recorder_of c.args.r.now) (λ i. get_or c.args.table.now i 0) c.args.m c.args.j c.args.best (sym c.if-not-has.ensures)

pub returns : goal.returns
returns c =
    let a = c.args in
    let R = recorder_of a.r.now in
    let taken : max c.slot_of.result a.best ≡ offer R (λ i. get_or a.table.now i 0) a.m a.j a.best =
    rw (c.slot_of.ensures, c.run_of.ensures, c.deadline_of.ensures, c.release_of.ensures, c.power.ensures)
    (offer_take R (λ i. get_or a.table.now i 0) a.m a.j a.best (sym c.if-not-has.ensures)) in
    c.max.ensures ∙ taken
