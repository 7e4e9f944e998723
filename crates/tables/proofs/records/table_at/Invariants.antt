-- After i records the list has these.
use Rattle.std.proofs.Common.{◌≡◌, ◌+◌, ◌*◌}
use Rattle.base.specs.Lists.{up_to, padded}
use Rattle.tables.proofs.records.table_at.Given as goal

abbrev pub invariant-loop-i : goal.invariant-loop-i
invariant-loop-i g l = l.list ≡ padded g.row.N g.T.Record.blank (up_to (λ x. g.T.Record.read_at l.s (l.from + x * g.T.Record.SIZE)) l.i)
