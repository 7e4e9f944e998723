-- `device::letter_at` meets its contract: a level that is not 0 is one of sleep.
use mathlib.Core.Path.{◌≡◌, refl, sym, subst}
use Prim.Native.Nat.{ℕ, zero, suc, ◌+◌}
use native.Mathlib.Omega.{arith}
use Rattle.device.specs.declared.Sleeps.{Sleeps}
use Rattle.device.specs.declared.Sleeps.TheVariants.{Plain, Numbered}
use Rattle.device.specs.Row.{at, byte_of}
use Rattle.device.proofs.writer.letter_at.Goals as goal

asleep : (k : ℕ) → (k ≡ 0 → ⊥) → 83 ≡ byte_of Plain (at k)
asleep zero h = absurd (h refl)
asleep (suc k) h = refl

digit : (k : ℕ) → (k ≡ 0 → ⊥) → 48 + k ≡ byte_of Numbered (at k)
digit zero h = absurd (h refl)
digit (suc k) h = omega arith

pub overflow_cast-result : goal.overflow_cast-result
overflow_cast-result c = omega (arith, c.requires)

pub overflow_add-result : goal.overflow_add-result
overflow_add-result c = omega (arith, c.requires)

pub returns-in-Plain : goal.returns-in-Plain
returns-in-Plain c = subst (λ (s : Sleeps). 83 ≡ byte_of s (at c.args.level)) (sym c.in-Plain.is) (asleep c.args.level c.if-level-eq0.false)

pub returns-in-Numbered : goal.returns-in-Numbered
returns-in-Numbered c = subst (λ (s : Sleeps). 48 + c.args.level ≡ byte_of s (at c.args.level)) (sym c.in-Numbered.is) (digit c.args.level c.if-level-eq0.false)
