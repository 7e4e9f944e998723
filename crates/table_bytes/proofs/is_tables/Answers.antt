-- `table_bytes::is_tables` meets its contract.
use mathlib.Core.Path.{sym, ◌∙◌}
use mathlib.Core.Bool.{true≢false}
use native.Mathlib.Omega.{arith}
use Rattle.table_bytes.proofs.Sizes.{tables_long}
use Rattle.table_bytes.proofs.is_tables.Goals as goal
use Rattle.table_bytes.proofs.is_tables.Goals.{then-s-ge-HEAD+in-1-to-3, then-s-ge-HEAD+in_default, then-s-ge-HEAD+in_default-2, else-s-ge-HEAD}

pub returns-else-matches : goal.returns-else-matches
returns-else-matches c =
    let s = c.args.s.now in (
      λ e. absurd (true≢false (sym e ∙ c.if-matches.false)),
      λ e t.
          elim c.if-s-ge-HEAD.branch [
            | then-s-ge-HEAD+in-1-to-3 w ↦ cc
            | then-s-ge-HEAD+in_default w ↦ omega (arith, t.kind)
            | then-s-ge-HEAD+in_default-2 w ↦ omega (arith, t.kind)
            | else-s-ge-HEAD w ↦ omega (arith, tables_long s t)
          ],
    )
