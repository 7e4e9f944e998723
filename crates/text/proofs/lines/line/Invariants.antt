-- `text::lines::line` meets its contract.
use mathlib.Core.Path.{◌≡◌}
use Prim.Native.Nat.{◌-◌, ◌≤◌}
use lib.ListN.{length, drop, get_or}
use mathlib.Core.List.{[]}
use Rattle.text.specs.Grammar.{lines_of}
use Rattle.text.proofs.lines.line.Given as goal

abbrev pub invariant-loop : goal.invariant-loop
invariant-loop l = (l.at ≤ length l.text) × (l.counter ≤ l.k) × (get_or (lines_of l.text) l.k [] ≡ get_or (lines_of (drop l.at l.text)) (l.k - l.counter) [])
