-- `text::fields::field` meets its contract.
use mathlib.Core.Path.{◌≡◌}
use mathlib.Core.Bool.{false}
use Prim.Native.Nat.{◌-◌, ◌≤◌}
use lib.ListN.{length, drop}
use Rattle.text.specs.Grammar.{unread}
use Rattle.text.specs.inside.Cursors.{raw_of, field_at}
use Rattle.text.proofs.fields.field.Given as goal

abbrev pub invariant-loop : goal.invariant-loop
invariant-loop l = (l.at ≤ length l.line) × (l.counter ≤ l.i) × (unread (raw_of (drop l.at l.line)) ≡ false) × (field_at (raw_of l.line) l.i ≡ field_at (raw_of (drop l.at l.line)) (l.i - l.counter))
