-- `table_bytes::head` meets its contract.
use mathlib.Core.Path.{◌∙◌}
use mathlib.Core.List.{[], ◌∷◌}
use native.Mathlib.Omega.{arith}
use Rattle.base.specs.Bytes.{pair_bytes}
use Rattle.tables.specs.inside.Held.{held}
use Rattle.tables.proofs.Appending.{appended_more, held_all}
use Rattle.table_bytes.specs.TableBytes.{kind_byte, head_of}
use Rattle.table_bytes.proofs.head.Goals as goal

pub returns : goal.returns
returns c =
    let a = c.args in
    let k = kind_byte a.kind in
    rw (c.push_pair.ensures, c.push_pair-d.ensures, c.push_pair-c.ensures, c.push_pair-b.ensures, c.push-a.ensures, c.kind_byte.ensures, c.empty.ensures)
    (appended_more _ (pair_bytes a.tasks) (pair_bytes a.jobs) ∙ appended_more _ (pair_bytes a.devices) _ ∙ appended_more _ (pair_bytes a.horizon) _
    ∙ appended_more (held []) (k ∷ []) _ ∙ held_all (head_of a.kind a.horizon a.devices a.tasks a.jobs) (omega arith))
