-- `text::fields::count_fields` meets its contract.
use mathlib.Core.Path.{◌≡◌}
use Prim.Native.Nat.{suc, ◌-◌, ◌≤◌}
use lib.ListN.{length, drop}
use Rattle.text.specs.inside.Cursors.{raw_of, counted}
use Rattle.text.proofs.fields.count_fields.Given as goal

abbrev pub invariant-loop-end : goal.invariant-loop-end
invariant-loop-end l = (l.at ≤ length l.line) × (l.count ≤ l.at) × (counted 0 (raw_of l.line) ≡ counted l.count (raw_of (drop l.at l.line)))

abbrev pub decreases-loop-end : goal.decreases-loop-end
decreases-loop-end l = suc (length l.line) - l.at
