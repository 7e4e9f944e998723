-- `catalogue::look_up::lacking_at` meets its contract.
use mathlib.Core.Path.{◌≡◌}
use mathlib.Core.Bool.{false}
use Prim.Native.Nat.{ℕ, ◌<◌}
use Rattle.base.specs.Bytes.{pieces}
use Rattle.catalogue.specs.Parts.{parts_of}
use Rattle.catalogue.specs.Faults.{lacking_at}
use Rattle.catalogue.proofs.look_up.lacking_at.Given as goal

-- The wanted numbers so far are there.
abbrev pub invariant-loop-k : goal.invariant-loop-k
invariant-loop-k l = (i : ℕ) → i < l.k → lacking_at (parts_of l.catalogue) (pieces 8 l.wanted) i ≡ false
