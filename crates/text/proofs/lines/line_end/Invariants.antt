-- `text::lines::line_end` meets its contract.
use mathlib.Core.Path.{◌≡◌}
use Prim.Native.Nat.{◌+◌, ◌≤◌}
use lib.ListN.{length, drop}
use Rattle.text.specs.inside.Cursors.{line_length}
use Rattle.text.proofs.lines.line_end.Given as goal

-- The line has the bytes so far, and as many as it has from here on.
abbrev pub invariant-loop-i : goal.invariant-loop-i
invariant-loop-i l = (l.i ≤ length l.s) × (line_length l.s ≡ l.i + line_length (drop l.i l.s))
