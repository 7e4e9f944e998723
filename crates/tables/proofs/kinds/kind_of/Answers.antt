-- `tables::kinds::kind_of` meets its contract.
use mathlib.Core.Path.{◌≡◌, refl}
use mathlib.Core.List.{List}
use Prim.Native.Nat.{ℕ, ◌<◌}
use native.Mathlib.Omega.{arith}
use lib.ListN.{length, get_or-eq_default}
use lib.Dec.{eqb}
use borrow.Author.Tests.{ne_eqb}
use Rattle.base.specs.Bytes.{byte_at}
use Rattle.base.proofs.Cases.{cond_cases}
use Rattle.tables.specs.declared.Kind.TheVariants.{First, Second, Third}
use Rattle.tables.specs.Layout.{kind_of}
use Rattle.tables.proofs.kinds.kind_of.Goals as goal

-- A file of no more than one byte has no second.
short : (s : List ℕ) → length s < 2 → First ≡ kind_of s
unfolding kind_of
short s h =
    let none : byte_at s 1 ≡ 0 = get_or-eq_default s 0 {n = 1} (omega arith) in
    rw none (cond_cases (λ k. First ≡ k) (eqb (byte_at s 0) 255) (λ _. refl) (λ _. refl))

second : (s : List ℕ) → byte_at s 0 ≡ 255 → byte_at s 1 ≡ 2 → Second ≡ kind_of s
unfolding kind_of
second s h l = rw (h, l)

third : (s : List ℕ) → byte_at s 0 ≡ 255 → byte_at s 1 ≡ 3 → Third ≡ kind_of s
unfolding kind_of
third s h l = rw (h, l)

unmarked : (s : List ℕ) → (byte_at s 0 ≡ 255 → ⊥) → First ≡ kind_of s
unfolding kind_of
unmarked s h = rw (ne_eqb _ 255 h)

other : (s : List ℕ) → (byte_at s 1 ≡ 2 → ⊥) → (byte_at s 1 ≡ 3 → ⊥) → First ≡ kind_of s
unfolding kind_of
other s h l = rw (ne_eqb _ 2 h, ne_eqb _ 3 l) (cond_cases (λ k. First ≡ k) (eqb (byte_at s 0) 255) (λ _. refl) (λ _. refl))

pub returns-in-255 : goal.returns-in-255
returns-in-255 c = second c.args.s.now (omega arith) (omega arith)

pub returns-in-255-2 : goal.returns-in-255-2
returns-in-255-2 c = third c.args.s.now (omega arith) (omega arith)

pub returns-in_default : goal.returns-in_default
returns-in_default c = short c.args.s.now (omega arith)

pub returns-in_default-2 : goal.returns-in_default-2
returns-in_default-2 c = other c.args.s.now (omega arith) (omega arith)

pub returns-in_default-3 : goal.returns-in_default-3
returns-in_default-3 c = unmarked c.args.s.now (omega arith)
