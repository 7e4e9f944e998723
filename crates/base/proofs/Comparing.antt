-- Two lists of bytes, byte by byte: whether they are the same, and what a loop over them finds at place i and has then left.
use mathlib.Core.Path.{◌≡◌, refl, sym}
use mathlib.Core.Bool.{true, false, true≢false}
use mathlib.Core.List.{List, [], ◌∷◌}
use Prim.Native.Nat.{ℕ, ◌+◌, ◌<◌}
use native.Mathlib.Numerals.{add-one}
use native.Mathlib.Omega.{arith}
use lib.ListN.{length, drop, get_or}
use lib.Seq.{drop-cons, drop-length}
use lib.Dec.{eqb}
use borrow.Author.Tests.{eqb-true, eq-eqb, ne_eqb}
use Rattle.base.specs.Bytes.{same}
use Rattle.base.proofs.Cases.{test_cases, both, and_right}

-- The test is equality.
pub same_true : (s t : List ℕ) → same s t ≡ true → s ≡ t
same_true [] [] e = refl
same_true [] (y ∷ t) e = absurd (true≢false (sym e))
same_true (x ∷ s) [] e = absurd (true≢false (sym e))
same_true (x ∷ s) (y ∷ t) e =
    let p = both (eqb x y) (same s t) e in
    let a = eqb-true x y p.0 in
    let b = same_true s t p.1 in
    cc

pub same_self : (s : List ℕ) → same s s ≡ true
same_self [] = refl
same_self (x ∷ s) = rw (eq-eqb x x refl) (same_self s)

-- Bytes that are not the same do not match.
pub same_only : (s t : List ℕ) → (s ≡ t → ⊥) → same s t ≡ false
same_only s t h = test_cases (λ b. b ≡ false) (same s t) (λ e. absurd (h (same_true s t e))) (λ e. refl)

pub same_end : (a b : List ℕ) (n : ℕ) → length a ≡ n → length b ≡ n → same (drop n a) (drop n b) ≡ true
same_end a b n e f = rw (← e, drop-length) (rw (e, ← f, drop-length))

pub same_next : (a b : List ℕ) (i : ℕ) → i < length a → i < length b → get_or a i 0 ≡ get_or b i 0 → same (drop i a) (drop i b) ≡ same (drop (i + 1) a) (drop (i + 1) b)
same_next a b i h k e = rw (drop-cons a i 0 h, drop-cons b i 0 k, eq-eqb _ _ e, add-one i)

pub same_stop : (a b : List ℕ) (i : ℕ) → i < length a → i < length b → (get_or a i 0 ≡ get_or b i 0 → ⊥) → same (drop i a) (drop i b) ≡ false
same_stop a b i h k e = rw (drop-cons a i 0 h, drop-cons b i 0 k, ne_eqb _ _ e)

pub same_lengths : (a b : List ℕ) → (length a ≡ length b → ⊥) → same a b ≡ false
same_lengths [] [] h = absurd (h refl)
same_lengths [] (y ∷ b) h = refl
same_lengths (x ∷ a) [] h = refl
same_lengths (x ∷ a) (y ∷ b) h = and_right (eqb x y) (same_lengths a b (λ e. h (omega (arith, e))))
