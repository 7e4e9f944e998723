-- After k records the file has these.
use mathlib.Core.Path.{◌≡◌}
use Rattle.tables.specs.inside.Held.{appended}
use Rattle.tables.specs.Layout.{joined, record_in}
use Rattle.tables.proofs.laying.push_records.Given as goal

abbrev pub invariant-loop-k : goal.invariant-loop-k
invariant-loop-k l = l.out ≡ appended l.initial.out (joined (record_in l.t l.part) l.k)
