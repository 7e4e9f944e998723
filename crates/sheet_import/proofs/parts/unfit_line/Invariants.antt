-- `sheet_import::parts::unfit_line` meets its contract.
use mathlib.Core.Path.{◌≡◌}
use mathlib.Core.Bool.{false}
use Prim.Native.Nat.{ℕ, ◌<◌}
use Rattle.catalogue.specs.Faults.{unfit_at}
use Rattle.text.specs.Grammar.{lines_of}
use Rattle.sheet_import.specs.inside.Reading.{devices_raw}
use Rattle.sheet_import.proofs.parts.unfit_line.Given as goal

-- No line so far is at fault.
abbrev pub invariant-loop-k : goal.invariant-loop-k
invariant-loop-k l = (i : ℕ) → i < l.k → unfit_at (devices_raw (lines_of l.text)) i ≡ false
