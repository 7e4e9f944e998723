-- `catalogue::look_up::unfit_at` meets its contract.
use mathlib.Core.Path.{◌≡◌}
use mathlib.Core.Bool.{false}
use Prim.Native.Nat.{ℕ, ◌<◌}
use Rattle.catalogue.specs.Parts.{parts_of}
use Rattle.catalogue.specs.Faults.{unfit_at}
use Rattle.catalogue.proofs.look_up.unfit_at.Given as goal

-- No part so far is at fault.
abbrev pub invariant-loop-k : goal.invariant-loop-k
invariant-loop-k l = (i : ℕ) → i < l.k → unfit_at (parts_of l.catalogue) i ≡ false
