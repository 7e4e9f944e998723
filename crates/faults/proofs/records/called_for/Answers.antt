-- `faults::records::called_for` meets its contract.
use mathlib.Core.Path.{◌≡◌, refl}
use mathlib.Core.Logic.{◌⊎◌, inl, inr}
use mathlib.Core.List.{List}
use Prim.Native.Nat.{ℕ}
use Rattle.base.specs.declared.reasons.Reason.{Reason}
use Rattle.base.specs.declared.reasons.Reason.TheVariants.{NoMoveTime, LevelCount}
use Rattle.base.specs.Reasons.{number_of}
use Rattle.request.specs.declared.Section.{Section}
use Rattle.request.specs.Format.{size_of, head_of}
use Rattle.faults.specs.Places.{called_for}
use Rattle.faults.proofs.records.called_for.Goals as goal

module _ (s : List ℕ) (k : Section) (at : ℕ) where
  head_called : (r : Reason) → (r ≡ NoMoveTime) ⊎ (r ≡ LevelCount) → head_of k ≡ called_for s k at (number_of r)
  unfolding called_for
  head_called r (inl e) = rw e
  head_called r (inr e) = rw e

  size_called : (r : Reason) → (r ≡ NoMoveTime → ⊥) → (r ≡ LevelCount → ⊥) → size_of s k at ≡ called_for s k at (number_of r)
  unfolding called_for
  size_called NoMoveTime h g = absurd (h refl)
  size_called LevelCount h g = absurd (g refl)
  size_called _ h g = refl

pub returns-in-NoMoveTime : goal.returns-in-NoMoveTime
returns-in-NoMoveTime c = rw c.head_of.ensures (head_called _ _ _ _ c.in-NoMoveTime.is)

pub returns-in_default : goal.returns-in_default
returns-in_default c = rw c.size_of.ensures (size_called _ _ _ _ c.in_default.not-NoMoveTime c.in_default.not-LevelCount)
