-- Laws of part numbers: padding loses no sign. Two are the same only byte by byte (`same_only` in base/proofs/Comparing): 00417 and 417 are different parts.
use mathlib.Core.Path.{◌≡◌, refl, sym, ap, ◌∙◌}
use mathlib.Core.Bool.{true}
use mathlib.Core.List.{List, [], ◌∷◌, ◌++◌}
use Prim.Native.Nat.{ℕ, zero, suc, ◌-◌, ◌<◌, ◌≤◌}
use native.Mathlib.Omega.{arith}
use lib.ListN.{length, replicate, length-append, length-replicate}
use lib.Dec.{eqb, ltb}
use borrow.Author.Tests.{eqb-true, eq-eqb, ltb-true, lt-ltb}
use Rattle.base.proofs.Comparing.{same_true, same_self}
use Rattle.base.specs.Lists.{padded, all}
use Rattle.base.proofs.Cases.{cond_cases, both}
use Rattle.catalogue.specs.Parts.{space, sign, front, well_formed}

-- ---- signs and padding

-- Of bytes that are all signs, with spaces behind, the front is the bytes themselves: no zero and no other sign is lost.
front_spaces : (m : ℕ) → front (replicate m space) ≡ []
front_spaces zero = refl
front_spaces (suc m) = refl

pub front_signs : (s : List ℕ) (m : ℕ) → all sign s ≡ true → front (s ++ replicate m space) ≡ s
front_signs [] m h = front_spaces m
front_signs (b ∷ s) m h =
    let p = both (sign b) (all sign s) h in
    let e = p.0 in
    let k = front_signs s m p.1 in
    rw (e, k)

pub all_front : (s : List ℕ) → all sign (front s) ≡ true
all_front [] = refl
all_front (b ∷ s) = cond_cases (λ (l : List ℕ). all sign l ≡ true) (sign b) (λ e. rw e (all_front s)) (λ e. refl)

pub zeros_kept : (s : List ℕ) → all sign s ≡ true → front (padded 8 space s) ≡ s
unfolding padded
zeros_kept s h = front_signs s (8 - length s) h

-- So two texts of signs that are not the same are two part numbers.
pub padded_only : (s t : List ℕ) → all sign s ≡ true → all sign t ≡ true → padded 8 space s ≡ padded 8 space t → s ≡ t
padded_only s t h k e = sym (zeros_kept s h) ∙ ap front e ∙ zeros_kept t k

-- A well-formed number is its signs, one at least, padded to eight bytes; and each such is well formed.
pub formed : (n : List ℕ) → well_formed n ≡ true → (length n ≡ 8) × (0 < length (front n)) × (n ≡ padded 8 space (front n))
formed n h =
    let p = both (eqb (length n) 8) _ h in
    let q = both (ltb 0 (length (front n))) _ p.1 in
    (eqb-true _ _ p.0, ltb-true _ _ q.0, same_true _ _ q.1)

pub length_padded : (s : List ℕ) → length s ≤ 8 → length (padded 8 space s) ≡ 8
unfolding padded
length_padded s h = rw (length-append, length-replicate) (omega arith)

pub signs_formed : (s : List ℕ) → all sign s ≡ true → 0 < length s → length s ≤ 8 → well_formed (padded 8 space s) ≡ true
signs_formed s h lo hi =
    let e = zeros_kept s h in
    let l = eq-eqb _ _ (length_padded s hi) in
    rw (l, e, lt-ltb 0 (length s) lo, same_self (padded 8 space s))
