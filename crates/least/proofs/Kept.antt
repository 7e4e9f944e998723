-- The memory stays right: what is found of a key has P, and an entry may be written that has it.
use mathlib.Core.Path.{◌≡◌, ◌∙◌, subst}
use mathlib.Core.List.{List}
use mathlib.Core.Logic.{◌⊎◌, inl, inr, by_cases}
use Prim.Native.Nat.{ℕ, ◌+◌, ◌*◌, ◌/◌, ◌%◌, ◌≤◌, ◌<◌}
use native.Mathlib.Nat.{add-zero}
use native.Mathlib.Omega.{arith}
use native.Mathlib.Decide.{ℕ_discrete}
use lib.Dec.{leb}
use lib.ListN.{get_or, set, length, length-set}
use lib.Seq.{get_or-set_same, get_or-set_other}
use borrow.Author.Tests.{leb-true}
use Rattle.base.proofs.Cases.{cond_cases}
use Rattle.stored.specs.declared.Key.{Key}
use Rattle.stored.specs.inside.Cleared.{no_key}
use Rattle.least.specs.declared.memory.Spot.{Spot}
use Rattle.least.specs.inside.Entries.{word, key_at, known_at, Right, Looked, wrote, kept}

-- ---- the words of an entry

-- The first word has two parts: an entry has the key whose parts its words tell, and what is known is the rest of the first.
pub keyed :
    (l : List ℕ) (i : ℕ) (q : Key) → get_or l (5 * i) 0 % 536870912 ≡ q.head → word l i 1 ≡ q.idle → word l i 2 ≡ q.idle4 → word l i 3 ≡ q.first
    → word l i 4 ≡ q.first4 → key_at l i ≡ q
unfolding key_at
keyed l i q e0 e1 e2 e3 e4 = rw (add-zero (5 * i), e0, e1, e2, e3, e4)

pub known_at_lem : (l : List ℕ) (i : ℕ) → known_at l i ≡ get_or l (5 * i) 0 / 4294967296
unfolding known_at
known_at_lem l i = rw (add-zero (5 * i))

-- The same entry of two memories, where they have the same words.
module _ (l m : List ℕ) (i : ℕ) (same : (n : ℕ) → n < 5 → word l i n ≡ word m i n) where
  same_key : key_at l i ≡ key_at m i
  unfolding key_at
  same_key = rw (same 0 (omega arith), same 1 (omega arith), same 2 (omega arith), same 3 (omega arith), same 4 (omega arith))

  same_known : known_at l i ≡ known_at m i
  unfolding known_at
  same_known = rw (same 0 (omega arith))

-- ---- an entry written
module _ (l : List ℕ) (i : ℕ) (q : Key) (x : ℕ) where
  abbrev one : List ℕ
  one = set l (5 * i) x

  abbrev two : List ℕ
  two = set one (5 * i + 1) q.idle

  abbrev three : List ℕ
  three = set two (5 * i + 2) q.idle4

  abbrev fourth : List ℕ
  fourth = set three (5 * i + 3) q.first

  wrote_length : length (wrote l i q x) ≡ length l
  unfolding wrote
  wrote_length = simp length-set

  -- The other entries stand as they did.
  wrote_other : (j : ℕ) → (j ≡ i → ⊥) → (n : ℕ) → n < 5 → word (wrote l i q x) j n ≡ word l j n
  unfolding wrote
  wrote_other j ne n h =
      get_or-set_other fourth (5 * i + 4) (5 * j + n) q.first4 0 (λ e. ne (omega arith))
      ∙ get_or-set_other three (5 * i + 3) (5 * j + n) q.first 0 (λ e. ne (omega arith))
      ∙ get_or-set_other two (5 * i + 2) (5 * j + n) q.idle4 0 (λ e. ne (omega arith))
      ∙ get_or-set_other one (5 * i + 1) (5 * j + n) q.idle 0 (λ e. ne (omega arith))
      ∙ get_or-set_other l (5 * i) (5 * j + n) x 0 (λ e. ne (omega arith))

  module _ (fits : 5 * i + 5 ≤ length l) where
    wrote_0 : get_or (wrote l i q x) (5 * i) 0 ≡ x
    unfolding wrote
    wrote_0 =
        get_or-set_other fourth (5 * i + 4) (5 * i) q.first4 0 (λ e. omega arith)
        ∙ get_or-set_other three (5 * i + 3) (5 * i) q.first 0 (λ e. omega arith)
        ∙ get_or-set_other two (5 * i + 2) (5 * i) q.idle4 0 (λ e. omega arith)
        ∙ get_or-set_other one (5 * i + 1) (5 * i) q.idle 0 (λ e. omega arith)
        ∙ get_or-set_same l (5 * i) x 0 (omega arith)

    wrote_1 : word (wrote l i q x) i 1 ≡ q.idle
    unfolding wrote
    wrote_1 =
        get_or-set_other fourth (5 * i + 4) (5 * i + 1) q.first4 0 (λ e. omega arith)
        ∙ get_or-set_other three (5 * i + 3) (5 * i + 1) q.first 0 (λ e. omega arith)
        ∙ get_or-set_other two (5 * i + 2) (5 * i + 1) q.idle4 0 (λ e. omega arith)
        ∙ get_or-set_same one (5 * i + 1) q.idle 0 (simp length-set (omega arith))

    wrote_2 : word (wrote l i q x) i 2 ≡ q.idle4
    unfolding wrote
    wrote_2 =
        get_or-set_other fourth (5 * i + 4) (5 * i + 2) q.first4 0 (λ e. omega arith)
        ∙ get_or-set_other three (5 * i + 3) (5 * i + 2) q.first 0 (λ e. omega arith)
        ∙ get_or-set_same two (5 * i + 2) q.idle4 0 (simp length-set (omega arith))

    wrote_3 : word (wrote l i q x) i 3 ≡ q.first
    unfolding wrote
    wrote_3 =
        get_or-set_other fourth (5 * i + 4) (5 * i + 3) q.first4 0 (λ e. omega arith)
        ∙ get_or-set_same three (5 * i + 3) q.first 0 (simp length-set (omega arith))

    wrote_4 : word (wrote l i q x) i 4 ≡ q.first4
    unfolding wrote
    wrote_4 = get_or-set_same fourth (5 * i + 4) q.first4 0 (simp length-set (omega arith))

    wrote_key : x % 536870912 ≡ q.head → key_at (wrote l i q x) i ≡ q
    wrote_key e = keyed (wrote l i q x) i q (rw wrote_0 e) wrote_1 wrote_2 wrote_3 wrote_4

    wrote_known : (known : ℕ) → x / 4294967296 ≡ known → known_at (wrote l i q x) i ≡ known
    wrote_known known e = known_at_lem (wrote l i q x) i ∙ rw wrote_0 e

-- The three parts of the first word are told apart.
head_of_lem : (h effort known : ℕ) → h < 536870912 → (h + (536870912 * effort + 4294967296 * known)) % 536870912 ≡ h
head_of_lem h effort known b = omega arith

known_of_lem : (h effort known : ℕ) → h < 536870912 → effort < 8 → (h + (536870912 * effort + 4294967296 * known)) / 4294967296 ≡ known
known_of_lem h effort known b e = omega arith

-- ---- the memory
module _ (P : Key → ℕ → Type 0) (l : List ℕ) where
  found : Right P l → (q : Key) (i known : ℕ) → 5 * i + 5 ≤ length l → key_at l i ≡ q → known_at l i ≡ known → P q known
  unfolding Right
  found right q i known fits k e = subst (λ (z : ℕ). P q z) e (subst (λ (z : Key). P z (known_at l i)) k (right i fits))

  pub right_looked : Right P l → (q : Key) (r : Spot) → Looked l q r → (r.known ≡ 0) ⊎ P q r.known
  right_looked right q r h = go h.known
    where
      go : (r.known ≡ 0) ⊎ ((5 * r.slot + 5 ≤ length l) × (key_at l r.slot ≡ q) × (known_at l r.slot ≡ r.known)) → (r.known ≡ 0) ⊎ P q r.known
      go (inl e) = inl e
      go (inr p) = inr (found right q r.slot r.known p.0 p.1 p.2)

  -- An entry that has P written.
  right_wrote :
      Right P l → (q : Key) (i x known : ℕ) → 5 * i + 5 ≤ length l → x % 536870912 ≡ q.head → x / 4294967296 ≡ known → P q known → Right P (wrote l i q x)
  unfolding Right
  right_wrote right q i x known fits h n p j b = by_cases (ℕ_discrete j i) here there
    where
      here : j ≡ i → P (key_at (wrote l i q x) j) (known_at (wrote l i q x) j)
      here e = rw (e, wrote_key l i q x fits h, wrote_known l i q x fits known n) p

      there : (j ≡ i → ⊥) → P (key_at (wrote l i q x) j) (known_at (wrote l i q x) j)
      there ne =
          let same = wrote_other l i q x j ne in
          rw (same_key (wrote l i q x) l j same, same_known (wrote l i q x) l j same) (right j (rw (wrote_length l i q x) at b))

  pub right_kept :
      Right P l → (q : Key) → q.head < 536870912 → (i effort known : ℕ) → effort < 8 → P q known → Right P (kept l i q effort known)
  unfolding kept
  right_kept right q b i effort known e h =
      cond_cases (Right P) (leb (5 * i + 5) (length l))
      (λ t. right_wrote right q i (q.head + (536870912 * effort + 4294967296 * known)) known (leb-true (5 * i + 5) (length l) t) (head_of_lem q.head effort known b)
      (known_of_lem q.head effort known b e) h)
      (λ t. right)

  pub right_clear : P no_key 0 → ((i : ℕ) → get_or l i 0 ≡ 0) → Right P l
  unfolding Right key_at known_at
  right_clear h zero-at i b = rw (zero-at (5 * i + 0), zero-at (5 * i + 1), zero-at (5 * i + 2), zero-at (5 * i + 3), zero-at (5 * i + 4)) h
