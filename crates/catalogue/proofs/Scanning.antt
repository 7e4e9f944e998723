-- What the tests of a part number find in its bytes.
use mathlib.Core.Path.{◌≡◌, refl, sym, ◌∙◌}
use mathlib.Core.Bool.{Bool, true, false, true≢false}
use mathlib.Core.List.{List, [], ◌∷◌, ◌++◌}
use Prim.Native.Nat.{ℕ, zero, suc, ◌+◌, ◌-◌, ◌<◌, ◌≤◌}
use native.Mathlib.Numerals.{add-one}
use native.Mathlib.Omega.{arith}
use lib.ListN.{length, replicate, take, drop, get_or, length-drop}
use lib.Seq.{drop-cons, drop-length, take_all}
use lib.Dec.{eqb}
use lib.Pointwise.{pointwise}
use borrow.Author.Tests.{eq-eqb, ne_eqb, lt-ltb, eqb-true}
use Rattle.std.specs.Prelude.{EachIndex, IsTrue, ◌↔◌}
use Rattle.base.specs.Lists.{padded}
use Rattle.base.proofs.Cases.{cond_cases, test_cases, both}
use Rattle.base.specs.Bytes.{same}
use Rattle.catalogue.specs.Parts.{space, sign, front, well_formed}

-- The code compares bytes as slices are compared.
pub same_pointwise : (s t : List ℕ) → pointwise eqb s t ≡ same s t
same_pointwise [] [] = refl
same_pointwise [] (y ∷ t) = refl
same_pointwise (x ∷ s) [] = refl
same_pointwise (x ∷ s) (y ∷ t) = rw (same_pointwise s t)

same_turned : (s t : List ℕ) → same s t ≡ same t s
same_turned [] [] = refl
same_turned [] (y ∷ t) = refl
same_turned (x ∷ s) [] = refl
same_turned (x ∷ s) (y ∷ t) = rw (eqb_turned x y, same_turned s t)
  where
    eqb_turned : (x y : ℕ) → eqb x y ≡ eqb y x
    eqb_turned x y = test_cases (λ b. b ≡ eqb y x) (eqb x y) (λ e. sym (eq-eqb y x (sym (eqb-true x y e)))) (λ e. sym (ne_eqb y x (λ f. true≢false (sym (eq-eqb x y (sym f)) ∙ e))))

-- A number that begins with another as long is that one.
pub same_start : (n p : List ℕ) → length n ≡ length p → pointwise eqb p (take (length p) n) ≡ same n p
same_start n p e = rw (← e, take_all (length n) n (omega arith)) (same_pointwise p n ∙ same_turned p n)

-- ---- the signs at the front

pub front_next : (s : List ℕ) (i : ℕ) → i < length s → sign (get_or s i 0) ≡ true → i + length (front (drop i s)) ≡ (i + 1) + length (front (drop (i + 1) s))
front_next s i h e = rw (drop-cons s i 0 h, e, add-one i) (omega arith)

pub front_stop : (s : List ℕ) (i : ℕ) → i < length s → sign (get_or s i 0) ≡ false → i + length (front (drop i s)) ≡ i
front_stop s i h e = rw (drop-cons s i 0 h, e) (omega arith)

pub front_end : (s : List ℕ) (n : ℕ) → n ≡ length s → n + length (front (drop n s)) ≡ n
front_end s n e = rw (e, drop-length) (omega arith)

-- After its signs a number is to be spaces.
pub front_same : (n u : List ℕ) → same n (front n ++ u) ≡ same (drop (length (front n)) n) u
front_same [] u = refl
front_same (b ∷ s) u =
    cond_cases (λ (f : List ℕ). same (b ∷ s) (f ++ u) ≡ same (drop (length f) (b ∷ s)) u) (sign b)
    (λ e. rw (eq-eqb b b refl) (front_same s u))
    (λ e. refl)

-- ---- spaces

spaces_each : (s : List ℕ) → ((k : ℕ) → k < length s → get_or s k 0 ≡ space) → same s (replicate (length s) space) ≡ true
spaces_each [] h = refl
spaces_each (b ∷ s) h = rw (eq-eqb b space (h 0 (omega arith))) (spaces_each s (λ k l. h (suc k) (omega arith)))

each_space : (s : List ℕ) → same s (replicate (length s) space) ≡ true → (k : ℕ) → k < length s → get_or s k 0 ≡ space
each_space [] e k l = absurd (omega arith)
each_space (b ∷ s) e zero l = eqb-true b space (both (eqb b space) _ e).0
each_space (b ∷ s) e (suc k) l = each_space s (both (eqb b space) _ e).1 k (omega arith)

pub all_spaces : (b : Bool) (s : List ℕ) → (IsTrue b ↔ EachIndex s (λ k. get_or s k 0 ≡ space)) → b ≡ same s (replicate (length s) space)
all_spaces b s h =
    test_cases (λ x. b ≡ x → b ≡ same s (replicate (length s) space)) b
    (λ _ e. e ∙ sym (spaces_each s (h.0 e)))
    (λ _ e. test_cases (λ y. y ≡ same s (replicate (length s) space) → b ≡ y) (same s (replicate (length s) space)) (λ f _. h.1 (each_space s f)) (λ _ _. e) refl)
    refl

-- ---- a whole number

pub front_fits : (n : List ℕ) → length (front n) ≤ length n
front_fits [] = omega arith
front_fits (b ∷ s) = cond_cases (λ (f : List ℕ). length f ≤ suc (length s)) (sign b) (λ e. omega (arith, front_fits s)) (λ e. omega arith)

pub formed_only_eight : (n : List ℕ) → (length n ≡ 8 → ⊥) → well_formed n ≡ false
formed_only_eight n h = rw (ne_eqb (length n) 8 h)

pub formed_some_sign : (n : List ℕ) → length n ≡ 8 → length (front n) ≡ 0 → well_formed n ≡ false
formed_some_sign n h e = rw (eq-eqb (length n) 8 h, e)

-- The rest after k signs, as a part of a slice has it.
pub formed_spaces : (n : List ℕ) (k : ℕ) → length n ≡ 8 → k ≡ length (front n) → 0 < k
    → same (take (length n - k) (drop k n)) (replicate (length (take (length n - k) (drop k n))) space) ≡ well_formed n
unfolding padded
formed_spaces n k h e l =
    let all : take (length n - k) (drop k n) ≡ drop k n = take_all (length n - k) (drop k n) (rw length-drop (omega arith)) in
    let m : length n - k ≡ 8 - k = omega arith in
    rw (all, length-drop, m, eq-eqb (length n) 8 h, ← e, lt-ltb 0 k l) (rw e (sym (front_same n (replicate (8 - length (front n)) space))))
