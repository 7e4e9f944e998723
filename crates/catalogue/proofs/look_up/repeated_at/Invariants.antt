-- `catalogue::look_up::repeated_at` meets its contract.
use mathlib.Core.Path.{◌≡◌}
use mathlib.Core.Bool.{false}
use Prim.Native.Nat.{ℕ, ◌<◌}
use Rattle.catalogue.specs.Parts.{parts_of}
use Rattle.catalogue.specs.Faults.{repeated_at}
use Rattle.catalogue.proofs.look_up.repeated_at.Given as goal

-- No part so far has the number of one before it.
abbrev pub invariant-loop-k : goal.invariant-loop-k
invariant-loop-k l = (i : ℕ) → i < l.k → repeated_at (parts_of l.catalogue) i ≡ false
