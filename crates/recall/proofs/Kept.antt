-- The memory stays right: what is found of a key has P, and an entry may be written that has it.
use mathlib.Core.Path.{◌≡◌, refl, ◌∙◌, subst}
use mathlib.Core.List.{List}
use mathlib.Core.Logic.{by_cases}
use Rattle.std.specs.Prelude.{IfSome}
use Rattle.std.proofs.lemmas.Option.{IfSome_then}
use Prim.Native.Nat.{ℕ, ◌+◌, ◌*◌, ◌%◌, ◌≤◌, ◌<◌}
use native.Mathlib.Nat.{add-zero}
use native.Mathlib.Omega.{arith}
use native.Mathlib.Decide.{ℕ_discrete}
use lib.Dec.{leb}
use lib.ListN.{get_or, set, length, length-set}
use lib.Seq.{get_or-set_same, get_or-set_other}
use borrow.Author.Tests.{leb-true}
use Rattle.base.proofs.Cases.{cond_cases}
use Rattle.stored.specs.declared.Key.{Key}
use Rattle.stored.specs.inside.Cleared.{no_key}
use Rattle.recall.specs.declared.memory.Spot.{Spot}
use Rattle.recall.specs.inside.Entries.{word, key_at, count_at, Right, Looked, wrote, kept}

-- ---- the words of an entry

pub keyed :
    (l : List ℕ) (i : ℕ) (q : Key) → get_or l (6 * i) 0 ≡ q.head → word l i 1 ≡ q.idle → word l i 2 ≡ q.idle4 → word l i 3 ≡ q.first
    → word l i 4 ≡ q.first4 → key_at l i ≡ q
unfolding key_at
keyed l i q e0 e1 e2 e3 e4 = rw (add-zero (6 * i), e0, e1, e2, e3, e4)

pub count_at_lem : (l : List ℕ) (i : ℕ) → count_at l i ≡ get_or l (6 * i + 5) 0 % 4294967296
unfolding count_at
count_at_lem l i = refl

-- The same entry of two memories, where they have the same words.
module _ (l m : List ℕ) (i : ℕ) (same : (n : ℕ) → n < 6 → word l i n ≡ word m i n) where
  same_key : key_at l i ≡ key_at m i
  unfolding key_at
  same_key = rw (same 0 (omega arith), same 1 (omega arith), same 2 (omega arith), same 3 (omega arith), same 4 (omega arith))

  same_count : count_at l i ≡ count_at m i
  unfolding count_at
  same_count = rw (same 5 (omega arith))

-- ---- an entry written
module _ (l : List ℕ) (i : ℕ) (q : Key) (x : ℕ) where
  abbrev one : List ℕ
  one = set l (6 * i) q.head

  abbrev two : List ℕ
  two = set one (6 * i + 1) q.idle

  abbrev three : List ℕ
  three = set two (6 * i + 2) q.idle4

  abbrev fourth : List ℕ
  fourth = set three (6 * i + 3) q.first

  abbrev fifth : List ℕ
  fifth = set fourth (6 * i + 4) q.first4

  wrote_length : length (wrote l i q x) ≡ length l
  unfolding wrote
  wrote_length = simp length-set

  -- The other entries stand as they did.
  wrote_other : (j : ℕ) → (j ≡ i → ⊥) → (n : ℕ) → n < 6 → word (wrote l i q x) j n ≡ word l j n
  unfolding wrote
  wrote_other j ne n h =
      get_or-set_other fifth (6 * i + 5) (6 * j + n) x 0 (λ e. ne (omega arith))
      ∙ get_or-set_other fourth (6 * i + 4) (6 * j + n) q.first4 0 (λ e. ne (omega arith))
      ∙ get_or-set_other three (6 * i + 3) (6 * j + n) q.first 0 (λ e. ne (omega arith))
      ∙ get_or-set_other two (6 * i + 2) (6 * j + n) q.idle4 0 (λ e. ne (omega arith))
      ∙ get_or-set_other one (6 * i + 1) (6 * j + n) q.idle 0 (λ e. ne (omega arith))
      ∙ get_or-set_other l (6 * i) (6 * j + n) q.head 0 (λ e. ne (omega arith))

  module _ (fits : 6 * i + 6 ≤ length l) where
    wrote_0 : get_or (wrote l i q x) (6 * i) 0 ≡ q.head
    unfolding wrote
    wrote_0 =
        get_or-set_other fifth (6 * i + 5) (6 * i) x 0 (λ e. omega arith)
        ∙ get_or-set_other fourth (6 * i + 4) (6 * i) q.first4 0 (λ e. omega arith)
        ∙ get_or-set_other three (6 * i + 3) (6 * i) q.first 0 (λ e. omega arith)
        ∙ get_or-set_other two (6 * i + 2) (6 * i) q.idle4 0 (λ e. omega arith)
        ∙ get_or-set_other one (6 * i + 1) (6 * i) q.idle 0 (λ e. omega arith)
        ∙ get_or-set_same l (6 * i) q.head 0 (omega arith)

    wrote_1 : word (wrote l i q x) i 1 ≡ q.idle
    unfolding wrote
    wrote_1 =
        get_or-set_other fifth (6 * i + 5) (6 * i + 1) x 0 (λ e. omega arith)
        ∙ get_or-set_other fourth (6 * i + 4) (6 * i + 1) q.first4 0 (λ e. omega arith)
        ∙ get_or-set_other three (6 * i + 3) (6 * i + 1) q.first 0 (λ e. omega arith)
        ∙ get_or-set_other two (6 * i + 2) (6 * i + 1) q.idle4 0 (λ e. omega arith)
        ∙ get_or-set_same one (6 * i + 1) q.idle 0 (simp length-set (omega arith))

    wrote_2 : word (wrote l i q x) i 2 ≡ q.idle4
    unfolding wrote
    wrote_2 =
        get_or-set_other fifth (6 * i + 5) (6 * i + 2) x 0 (λ e. omega arith)
        ∙ get_or-set_other fourth (6 * i + 4) (6 * i + 2) q.first4 0 (λ e. omega arith)
        ∙ get_or-set_other three (6 * i + 3) (6 * i + 2) q.first 0 (λ e. omega arith)
        ∙ get_or-set_same two (6 * i + 2) q.idle4 0 (simp length-set (omega arith))

    wrote_3 : word (wrote l i q x) i 3 ≡ q.first
    unfolding wrote
    wrote_3 =
        get_or-set_other fifth (6 * i + 5) (6 * i + 3) x 0 (λ e. omega arith)
        ∙ get_or-set_other fourth (6 * i + 4) (6 * i + 3) q.first4 0 (λ e. omega arith)
        ∙ get_or-set_same three (6 * i + 3) q.first 0 (simp length-set (omega arith))

    wrote_4 : word (wrote l i q x) i 4 ≡ q.first4
    unfolding wrote
    wrote_4 =
        get_or-set_other fifth (6 * i + 5) (6 * i + 4) x 0 (λ e. omega arith)
        ∙ get_or-set_same fourth (6 * i + 4) q.first4 0 (simp length-set (omega arith))

    wrote_5 : word (wrote l i q x) i 5 ≡ x
    unfolding wrote
    wrote_5 = get_or-set_same fifth (6 * i + 5) x 0 (simp length-set (omega arith))

    wrote_key : key_at (wrote l i q x) i ≡ q
    wrote_key = keyed (wrote l i q x) i q wrote_0 wrote_1 wrote_2 wrote_3 wrote_4

    wrote_count : x < 4294967296 → count_at (wrote l i q x) i ≡ x
    wrote_count b = count_at_lem (wrote l i q x) i ∙ rw wrote_5 (small x b)
      where
        small : (x : ℕ) → x < 4294967296 → x % 4294967296 ≡ x
        small x b = omega arith

-- ---- the memory
module _ (P : Key → ℕ → Type 0) (l : List ℕ) where
  found : Right P l → (q : Key) (i n : ℕ) → 6 * i + 6 ≤ length l → key_at l i ≡ q → count_at l i ≡ n → P q n
  unfolding Right
  found right q i n fits k e = subst (λ (z : ℕ). P q z) e (subst (λ (z : Key). P z (count_at l i)) k (right i fits))

  pub right_looked : Right P l → (q : Key) (r : Spot) → Looked l q r → IfSome r.count (λ n. (0 < n) × P q n)
  right_looked right q r h = IfSome_then r.count h.known (λ n k. (k.0, found right q r.slot n k.1 k.2 k.3))

  -- An entry that has P written.
  right_wrote : Right P l → (q : Key) (i n : ℕ) → 6 * i + 6 ≤ length l → n < 4294967296 → P q n → Right P (wrote l i q n)
  unfolding Right
  right_wrote right q i n fits few p j b = by_cases (ℕ_discrete j i) here there
    where
      here : j ≡ i → P (key_at (wrote l i q n) j) (count_at (wrote l i q n) j)
      here e = rw (e, wrote_key l i q n fits, wrote_count l i q n fits few) p

      there : (j ≡ i → ⊥) → P (key_at (wrote l i q n) j) (count_at (wrote l i q n) j)
      there ne =
          let same = wrote_other l i q n j ne in
          rw (same_key (wrote l i q n) l j same, same_count (wrote l i q n) l j same) (right j (rw (wrote_length l i q n) at b))

  pub right_kept : Right P l → (q : Key) (i n : ℕ) → n < 4294967296 → P q n → Right P (kept l i q n)
  unfolding kept
  right_kept right q i n few h =
      cond_cases (Right P) (leb (6 * i + 6) (length l)) (λ t. right_wrote right q i n (leb-true (6 * i + 6) (length l) t) few h) (λ t. right)

  pub right_clear : P no_key 0 → ((i : ℕ) → get_or l i 0 ≡ 0) → Right P l
  unfolding Right key_at count_at
  right_clear h zero-at i b =
      rw (zero-at (6 * i + 0), zero-at (6 * i + 1), zero-at (6 * i + 2), zero-at (6 * i + 3), zero-at (6 * i + 4), zero-at (6 * i + 5)) h
