-- `recall::asking::ask` meets its contract.
use mathlib.Core.Path.{sym, ap, ◌∙◌, subst}
use Prim.Native.Nat.{◌<◌}
use Rattle.flat.specs.inside.Flat.{recorder_of}
use Rattle.extras.specs.inside.Tabled.{cap_at}
use Rattle.stored.specs.declared.Key.{Key}
use Rattle.vertex.specs.inside.Shown.{Ordered}
use Rattle.vertex.proofs.Showing.{shown_ordered, set_few}
use Rattle.recall.specs.inside.Entries.{slacked_by}
use Rattle.recall.proofs.Answered.{held_head, looked_asks}
use Rattle.recall.proofs.asking.ask.Goals as goal

pub key_of-requires : goal.key_of-requires
key_of-requires c =
    let valid = c.requires.0.valid in
    let h = c.requires.1.0 in (
      c.requires.0,
      (
        subst (Ordered _ _) h.time (shown_ordered _ valid _ _ h.left h.vertex h.shows),
        (set_few _ valid _ _ h.left h.vertex h.shows).1,
      ),
    )

pub slacked-key-requires : goal.slacked-key-requires
slacked-key-requires c =
    subst (λ (k : Key). k.head < 536870912) (sym c.key_of.ensures)
    (held_head _ c.args.extras.now c.args.v.now c.requires.0 c.args.set c.args.time c.requires.1.0)

pub returns : goal.returns
returns c =
    let R = recorder_of c.args.r.now in
    let cap = cap_at c.args.extras.now in
    looked_asks R c.args.extras.now c.args.v.now c.requires.0 c.args.set c.args.time c.args.memory.now c.requires.1.1 c.args.slack
    c.slacked-key.result
    (c.slacked-key.ensures ∙ ap (λ (k : Key). slacked_by k c.args.slack) c.key_of.ensures) c.look-slot.result c.look-slot.ensures
