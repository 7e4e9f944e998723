-- `sheet_import::lines::lines_fault` meets its contract.
use mathlib.Core.Path.{◌≡◌}
use Prim.Native.Nat.{◌-◌, ◌≤◌}
use lib.ListN.{length, drop}
use Rattle.text.specs.Grammar.{lines_of}
use Rattle.sheet_import.specs.inside.Judging.{first_line}
use Rattle.sheet_import.proofs.lines.lines_fault.Given as goal

-- What is told of all lines is told of those that are left.
abbrev pub invariant-loop-at : goal.invariant-loop-at
invariant-loop-at l = (l.at ≤ length l.text) × (l.line ≤ l.at) × (first_line l.rows 0 (lines_of l.text) ≡ first_line l.rows l.line (lines_of (drop l.at l.text)))

abbrev pub decreases-loop-at : goal.decreases-loop-at
decreases-loop-at l = length l.text - l.at
